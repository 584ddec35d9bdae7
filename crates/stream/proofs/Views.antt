-- What is to come of a stream, and what was printed by it, by what its owner can tell of it.
use Rattle.std.proofs.Common.{◌≡◌, ℕ, zero, suc, ◌<◌, ◌⊎◌, inl, inr, arith, Bool, true, List, [], ◌++◌, Option, Some, Result, Ok, Err, OnErr, sym, refl, ap, ◌∙◌, append_assoc, append-nil}
use Rattle.recording.specs.Recordings.{events_of, rest_of}
use Rattle.stream.specs.Streams.{View, begun, with_told, OutputHolds, WrittenOut, WrittenFirst, unread, written, NoneLost, Streams}

-- where nothing waits, a writer that is the same holds the same
abbrev Quiet : {R W : Type 0} → View R W → View R W → Type 0
Quiet v v' = v.lines ≡ [] → v'.output ≡ v.output

module _ {R W : Type 0} (remaining : R → Option (List ℕ)) (contents : W → Option (List ℕ)) where
  -- a stream that was just begun has all that the reader has
  pub begins : (v : View R W) (input : R) (output : W) (bytes out : List ℕ) → v ≡ begun input output → remaining input ≡ Some bytes → contents output ≡ Some out → Streams remaining contents v (events_of bytes) (rest_of bytes) out
  begins v input output bytes out e r w = rw e (record { left = bytes; has_left = r; events_are = refl; rest_is = refl; written = out; has_written = w; out_is = sym (append-nil out) })

  -- a line that was told is printed, or will be
  pub line_told : (v v' : View R W) (kept? : Bool) (line : List ℕ) (events : List (List ℕ)) (rest out : List ℕ) → v' ≡ with_told kept? line v → kept? ≡ true → Streams remaining contents v events rest out → Streams remaining contents v' events rest (out ++ line)
  line_told v v' kept? line events rest out e k s = rw (e, k) (record {
    left = s.left;
    has_left = s.has_left;
    events_are = s.events_are;
    rest_is = s.rest_is;
    written = s.written;
    has_written = s.has_written;
    out_is = ap (λ l. l ++ line) s.out_is ∙ append_assoc s.written v.lines line;
  })

  -- lines that were written were printed
  pub lines_written : (v v' : View R W) (events : List (List ℕ)) (rest out : List ℕ) → v'.input ≡ v.input → v'.unread ≡ v.unread → WrittenOut contents v v' → Streams remaining contents v events rest out → Streams remaining contents v' events rest out
  lines_written v v' events rest out i u w s = record {
    left = s.left;
    has_left = ap remaining i ∙ s.has_left;
    events_are = s.events_are ∙ ap (λ l. events_of (l ++ s.left)) (sym u);
    rest_is = s.rest_is ∙ ap (λ l. rest_of (l ++ s.left)) (sym u);
    written = s.written ++ v.lines;
    has_written = w.holds s.written s.has_written;
    out_is = s.out_is ∙ (sym (append-nil (s.written ++ v.lines)) ∙ ap (λ l. (s.written ++ v.lines) ++ l) (sym w.none_wait));
  }

  -- what a writer holds that holds all
  pub held : (v : View R W) (output : W) (events : List (List ℕ)) (rest out : List ℕ) → OutputHolds contents v output → Streams remaining contents v events rest out → contents output ≡ Some out
  held v output events rest out h s = h s.written s.has_written ∙ ap (λ l. Some l) (sym s.out_is)

  -- turn by turn: no byte is lost, and once they are written the lines stay so
  pub none_lost : (v v' v'' : View R W) → NoneLost remaining v v' → NoneLost remaining v' v'' → NoneLost remaining v v''
  none_lost v v' v'' f g left e = let a = f left e in let b = g a.0 a.1 in (b.0, b.1, b.2 ∙ a.2)

  pub written_stays : {v v' v'' : View R W} → v''.output ≡ v'.output → v''.lines ≡ v'.lines → WrittenOut contents v v' → WrittenOut contents v v''
  written_stays o l w = record { holds = λ out e. ap contents o ∙ w.holds out e; none_wait = l ∙ w.none_wait }

  -- a read that nothing waited for
  pub written_again : {v v' v'' : View R W} → WrittenOut contents v v' → (v'.lines ≡ [] → v''.output ≡ v'.output) → WrittenFirst contents v' v'' → WrittenOut contents v v''
  written_again w quiet (unread i l) = written_stays (quiet w.none_wait) l w
  written_again w quiet (written x) = written_stays (quiet w.none_wait) (x.none_wait ∙ sym w.none_wait) w

-- a count of turns
pub none_or_more : (n : ℕ) → (n ≡ 0) ⊎ (0 < n)
none_or_more zero = inl refl
none_or_more (suc n) = inr (omega arith)

-- what holds holds after an error
pub on_err : {T E : Type 0} (r : Result T E) (A : Type 0) → A → OnErr r A
on_err (Ok x) A a = tt
on_err (Err e) A a = a
