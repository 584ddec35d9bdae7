-- How a call that fills a lent buffer ends, where what it is given is in form.
use Rattle.std.proofs.Common.{◌≡◌, ℕ, ◌<◌, ◌≤◌, Bool, true, false, cond, leb, List, length, take, drop, IfOk, Ok, Err, Result, sym, refl, subst, le-leb}
use Rattle.std.proofs.lemmas.List.{take_at}
use Rattle.refusals.specs.Refusals.{numbered}
use Rattle.refusals.specs.declared.Refusal.{Refusal}
use borrow.Author.Tests.{lt-leb}
use Rattle.refusals.specs.Filling.{Fills, in_front}

module _ {formed : Bool} {bytes before : List ℕ} where
  pub fills_short : formed ≡ true → length before < length bytes → Fills formed bytes before (Err 102) before
  fills_short f h = record { answers = rw (f, lt-leb _ _ h); leaves = refl }

  pub fills_done : {n : ℕ} {after : List ℕ} → formed ≡ true → length bytes ≤ length before → n ≡ length bytes → after ≡ in_front bytes before → Fills formed bytes before (Ok n) after
  fills_done f h l e = record { answers = rw (f, le-leb _ _ h, l); leaves = e }

-- as many bytes as were filled
filled_length : (b : Bool) (k n : ℕ) → ◌≡◌ {A = Result ℕ ℕ} (Ok n) (cond b (Ok k) (Err 102)) → n ≡ k
filled_length true k n e = cc
filled_length false k n e = absurd (cc)

-- a fact about the bytes is one about what a call has filled
pub fills_holding : (P : List ℕ → Type 0) {bytes before after : List ℕ} (r : Result ℕ Refusal) → Fills true bytes before (numbered r) after → P bytes → IfOk r (λ n. P (take n after))
fills_holding P {bytes} {before} {after} (Ok n) h p =
    let k = filled_length (leb (length bytes) (length before)) (length bytes) n h.answers in
    let e : take n after ≡ bytes = rw (h.leaves, k) (take_at bytes (drop (length bytes) before) (length bytes) refl) in
    subst P (sym e) p
fills_holding P (Err e) h p = tt
