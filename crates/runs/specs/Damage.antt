-- Damage to one character of a sound transmission on the line, and what may come of it.
use Rattle.std.specs.Prelude.{◌≡◌, ℕ, ◌<◌, ◌≤◌, ◌⊎◌, List, [], ◌∷◌, length, Some, ◌≢◌, slice_index, slice_set}
use Rattle.frame.specs.Transmissions.{preambles_of}
use Rattle.line.specs.Answers.{content_of}
use Rattle.line.specs.Characters.{Character, bytes_in}
use Rattle.line.specs.Whole.{Sound, communication_error}

-- a sound transmission of which just one character is taken as another: with another byte, at any place, or with marks,
-- from the start on
pub record Damaged (characters : List Character) : Type 0 where
  pub original : List Character
  pub sound : Sound original
  pub place : ℕ
  pub within : place < length original
  pub got : Character
  pub taken : characters ≡ slice_set original place got
  pub how :
      (got.byte ≢ slice_index (bytes_in original) place)
      ⊎ ((preambles_of (bytes_in original) ≤ place) × (got.marks ≢ 0))

-- an answer that carries a communication error: a first status that tells one, a second of 0, no data
pub record CommunicationError (answer : List ℕ) : Type 0 where
  pub status : ℕ
  pub carries : content_of answer ≡ Some (status ∷ 0 ∷ [])
  pub error : communication_error ≤ status
