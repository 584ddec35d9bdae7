-- The numbers of a record: the ranges of its fields and its lengths.
use Rattle.std.specs.Prelude.{ℕ, ◌^◌}

abbrev pub most_polling_address : ℕ
most_polling_address = 15

-- Those of a channel's replies.
abbrev pub least_reply_preambles : ℕ
least_reply_preambles = 2

abbrev pub most_reply_preambles : ℕ
most_reply_preambles = 15

-- Two flags, in the two lowest bits.
abbrev pub most_flags : ℕ
most_flags = 3

-- In whole percent.
abbrev pub most_ceiling : ℕ
most_ceiling = 100

-- Identification and assembly numbers are below it.
abbrev pub end_of_24_bits : ℕ
end_of_24_bits = 2 ^ 24

-- How many bytes a record has, and how many of them are text.
abbrev pub record_length : ℕ
record_length = 80

abbrev pub text_length : ℕ
text_length = 45

-- From where on a record's text stands in its bytes, and from where on the reserved bytes.
abbrev pub text_at : ℕ
text_at = 28

abbrev pub reserved_at : ℕ
reserved_at = 73

abbrev pub reserved_length : ℕ
reserved_length = 7
