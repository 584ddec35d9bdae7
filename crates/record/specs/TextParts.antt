-- The parts of a record's text.
use Rattle.std.specs.Prelude.{ℕ, ◌-◌, List, slice_range}

-- Where a part begins, and where it ends.
pub record Part : Type 0 where
  pub start : ℕ
  pub end : ℕ

abbrev pub tag : Part
tag = record { start = 0; end = 6 }

abbrev pub descriptor : Part
descriptor = record { start = 6; end = 18 }

abbrev pub date : Part
date = record { start = 18; end = 21 }

abbrev pub message : Part
message = record { start = 21; end = 45 }

-- Tag, descriptor and date, which stand side by side.
abbrev pub labels : Part
labels = record { start = 0; end = 21 }

-- How many bytes a part has.
abbrev pub part_length : Part → ℕ
part_length part = part.end - part.start

-- The bytes of a part.
abbrev pub part_of : Part → List ℕ → List ℕ
part_of part text = slice_range text part.start part.end
