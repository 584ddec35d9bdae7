-- What a call does that writes into a buffer.
use Rattle.std.specs.Prelude.{◌≡◌, ℕ, ◌+◌, Bool, if◌then◌else◌, is_ok, List, ◌++◌, length, take, drop, Ok, Err, Result, nat_le}
use Rattle.refusals.specs.Refusals.{number_of}
use Rattle.refusals.specs.declared.Refusal.TheVariants.{ShortBuffer, OutOfForm}

-- A buffer with these bytes written from a place on.
abbrev pub placed : ℕ → List ℕ → List ℕ → List ℕ
placed at bytes buffer = take at buffer ++ bytes ++ drop (at + length bytes) buffer

-- A buffer with these bytes in its front, and what stood past them as it was.
abbrev pub in_front : List ℕ → List ℕ → List ℕ
in_front bytes buffer = bytes ++ drop (length bytes) buffer

-- A call that fills the front of a buffer which its caller lends. Its answer: 110 where the input is out of form, then 102
-- where the buffer is too short, else how many bytes were written.
abbrev pub fill_answer : Bool → List ℕ → List ℕ → Result ℕ ℕ
fill_answer formed bytes buffer =
    if formed
    then if nat_le (length bytes) (length buffer) then Ok (length bytes) else Err (number_of ShortBuffer)
    else Err (number_of OutOfForm)

-- A call whose result is these bytes fills a lent buffer so; where it refuses, the buffer is as it was.
pub record Fills (formed : Bool) (bytes before : List ℕ) (answer : Result ℕ ℕ) (after : List ℕ) : Type 0 where
  pub answers : answer ≡ fill_answer formed bytes before
  pub leaves : after ≡ (if is_ok answer then in_front bytes before else before)
