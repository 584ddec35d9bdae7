use Rattle.std.proofs.Common.{◌≡◌, ℕ, ◌+◌, ◌/◌, ◌%◌, ◌<◌, ◌≤◌, List, [], ◌∷◌, ◌++◌, decimal, sym, ap, ◌∙◌, append_assoc, vec_items, arith}
use Rattle.std.proofs.lemmas.Fmt.{decimal_digit, decimal_step}
use Rattle.recording.proofs.printer.push_number.Goals as goal
use Rattle.recording.proofs.printer.push_number.Goals.{then-number-ge100+in_ok-push, else-number-ge100, then-number-ge10+in_ok-push-2, else-number-ge10}

-- a number of one, of two and of three digits
one : (n : ℕ) → n < 10 → decimal n ≡ (48 + n % 10) ∷ []
one n h = decimal_digit n h ∙ ap (λ d. d ∷ []) (omega arith)

two : (n : ℕ) → 10 ≤ n → n < 100 → decimal n ≡ (48 + n / 10 % 10) ∷ (48 + n % 10) ∷ []
two n h l = decimal_step n h (omega arith) ∙ ap (λ d. d ++ ((48 + n % 10) ∷ [])) (one (n / 10) (omega arith))

three : (n : ℕ) → 100 ≤ n → n < 256 → decimal n ≡ (48 + n / 100) ∷ (48 + n / 10 % 10) ∷ (48 + n % 10) ∷ []
three n h l =
    let most : (48 + n / 10 / 10 % 10) ≡ 48 + n / 100 = omega arith in
    decimal_step n (omega arith) (omega arith) ∙ (ap (λ d. d ++ ((48 + n % 10) ∷ [])) (two (n / 10) (omega arith) (omega arith)) ∙ ap (λ d. d ∷ (48 + n / 10 % 10) ∷ (48 + n % 10) ∷ []) most)

-- digits pushed behind a line, one after another
behind_two : (line : List ℕ) (a b : ℕ) → (line ++ (a ∷ [])) ++ (b ∷ []) ≡ line ++ (a ∷ b ∷ [])
behind_two line a b = append_assoc line (a ∷ []) (b ∷ [])

behind_three : (line : List ℕ) (a b c : ℕ) → ((line ++ (a ∷ [])) ++ (b ∷ [])) ++ (c ∷ []) ≡ line ++ (a ∷ b ∷ c ∷ [])
behind_three line a b c = append_assoc (line ++ (a ∷ [])) (b ∷ []) (c ∷ []) ∙ append_assoc line (a ∷ []) (b ∷ c ∷ [])

pub returns-clause-line : goal.returns-clause-line
returns-clause-line c =
    let line = c.args.line.now.items in
    let n = c.args.number in
    let ones : List ℕ = (48 + n % 10) ∷ [] in
    let tens : List ℕ = (48 + n / 10 % 10) ∷ [] in
    let last = c.in_ok-push-3.ensures.items in
    elim c.if-number-ge100.branch [
      | then-number-ge100+in_ok-push v ↦ elim c.if-number-ge10.branch [
        | then-number-ge10+in_ok-push-2 w ↦
            last ∙ ap (λ l. l ++ ones) (ap vec_items w.line-is ∙ (w.in_ok-push-2.ensures.items ∙ ap (λ l. l ++ tens) (ap vec_items v.line-is ∙ v.in_ok-push.ensures.items)))
            ∙ (behind_three line (48 + n / 100) (48 + n / 10 % 10) (48 + n % 10) ∙ ap (λ l. line ++ l) (sym (three n (omega (arith, v.if-number-ge100.true)) c.ranges.number.fits)))
        | else-number-ge10 w ↦ absurd (omega (arith, v.if-number-ge100.true, w.if-number-ge10.false))
      ]
      | else-number-ge100 v ↦ elim c.if-number-ge10.branch [
        | then-number-ge10+in_ok-push-2 w ↦
            last ∙ ap (λ l. l ++ ones) (ap vec_items w.line-is ∙ (w.in_ok-push-2.ensures.items ∙ ap (λ l. l ++ tens) (ap vec_items v.line-is)))
            ∙ (behind_two line (48 + n / 10 % 10) (48 + n % 10) ∙ ap (λ l. line ++ l) (sym (two n (omega (arith, w.if-number-ge10.true)) v.if-number-ge100.false)))
        | else-number-ge10 w ↦
            last ∙ ap (λ l. l ++ ones) (ap vec_items w.line-is ∙ ap vec_items v.line-is) ∙ ap (λ l. line ++ l) (sym (one n w.if-number-ge10.false))
      ]
    ]
