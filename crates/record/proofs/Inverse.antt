-- Encoding and decoding undo each other.
use Rattle.std.proofs.Common.{◌≡◌, ℕ, ◌^◌, ◌<◌, Bool, true, leb, List, [], ◌∷◌, ◌++◌, length, get_or, take, drop, replicate, None, sym, refl, ap, ◌∙◌, subst, arith}
use lib.Ieee.{Float}
use Rattle.std.specs.Float.{float_is_finite}
use Rattle.std.specs.List.{AllByRecursion}
use Rattle.std.proofs.lemmas.List.{take_at, drop_at, length-drop}
use Rattle.std.proofs.lemmas.Bool.{and_parts, leb-true}
use Rattle.setpoint.specs.Value.{value_of}
use Rattle.setpoint.specs.Units.{full_scale?}
use Rattle.record.specs.declared.Fields.{Fields}
use Rattle.record.specs.declared.Record.{Record}
use Rattle.record.specs.Bytes.{bytes32, number32, zeros?}
use Rattle.record.specs.Faults.{fault_of}
use Rattle.record.specs.Inverse.{ReadsBack, EncodesAgain}
use Rattle.record.specs.Lawful.{Lawful}
use Rattle.record.specs.Layout.{field_bytes, reading_bytes, encoded, fields_at, reading_at, decoded}
use Rattle.record.specs.Readings.{pattern_of, FiniteBinary32}
use Rattle.record.proofs.Faultless.{Faultless, faultless, from_faultless}
use Rattle.record.proofs.Numbers.{Byte, back24, back32, below32, bytes24_number, bytes32_number, low_flag, high_flag, flags_limit, flags_again}
use Rattle.record.proofs.Places.{listed_is, three_parts, zeros_are}
use Rattle.record.proofs.Patterns.{pattern_value, value_pattern, pattern_limit}

-- ---- from a record to bytes and back

-- a record is what its fields are
same_fields : (f : Fields) (i a s u : ℕ) (c k : Bool) → i ≡ f.identification → a ≡ f.assembly_number → c ≡ f.changed → k ≡ f.key_open → s ≡ f.setpoint → u ≡ f.full_scale
    → ◌≡◌ {A = Fields} (record { device_type = f.device_type; identification = i; polling_address = f.polling_address; preambles = f.preambles; assembly_number = a; changed = c; key_open = k; setpoint = s; ceiling = f.ceiling; flow_unit = f.flow_unit; full_scale = u }) f
same_fields f i a s u c k ei ea ec ek es eu = rw (ei, ea, ec, ek, es, eu) refl

same_record : (r : Record) (f : Fields) (x y : Float) (t : List ℕ) → f ≡ r.fields → x ≡ r.reading.flow → y ≡ r.reading.temperature → t ≡ r.text
    → ◌≡◌ {A = Record} (record { fields = f; reading = record { flow = x; temperature = y }; text = t }) r
same_record r f x y t ef ex ey et = rw (ef, ex, ey, et) refl

value_back : (x : Float) → FiniteBinary32 x → value_of (number32 (bytes32 (pattern_of x)) 0) ≡ x
value_back x h = ap value_of (back32 (pattern_of x) (pattern_limit x h.1)) ∙ value_pattern x h.1

full_scale_limit : (n : ℕ) → full_scale? n ≡ true → n < 2 ^ 32
full_scale_limit n h = omega (arith, leb-true n 1000000 (and_parts (leb 1 n) (leb n 1000000) h).1)

pub reads_back : (r : Record) → Lawful r → ReadsBack r (encoded r)
reads_back r h =
    let f = r.fields in
    let g = h.fields in
    let same : decoded (encoded r) ≡ r =
    same_record r (fields_at (encoded r)) _ _ _
    (same_fields f _ _ _ _ _ _ (back24 f.identification g.identification) (back24 f.assembly_number g.assembly_number) (low_flag f.changed f.key_open) (high_flag f.changed f.key_open) (back32 f.setpoint g.setpoint.0) (back32 f.full_scale (full_scale_limit f.full_scale g.full_scale)))
    (value_back r.reading.flow h.reading.0)
    (value_back r.reading.temperature h.reading.1)
    (take_at r.text (replicate 7 0) 45 h.text) in
    record {
      faultless = faultless (encoded r) (subst Lawful (sym same) h) (flags_limit f.changed f.key_open) (ap zeros? (drop_at r.text (replicate 7 0) 45 h.text));
      same = same;
    }

-- ---- from bytes to a record and back

-- the first 28 bytes, of equal parts
same_front : (d p n c u : ℕ) {i i' a a' s s' l l' x x' y y' : List ℕ} {g g' : ℕ} → i ≡ i' → a ≡ a' → g ≡ g' → s ≡ s' → l ≡ l' → x ≡ x' → y ≡ y'
    → ((d ∷ []) ++ i ++ (p ∷ n ∷ []) ++ a ++ (g ∷ []) ++ s ++ (c ∷ u ∷ []) ++ l) ++ (x ++ y) ≡ ((d ∷ []) ++ i' ++ (p ∷ n ∷ []) ++ a' ++ (g' ∷ []) ++ s' ++ (c ∷ u ∷ []) ++ l') ++ (x' ++ y')
same_front d p n c u ei ea eg es el ex ey = rw (ei, ea, eg, es, el, ex, ey) refl

module _ (bytes : List ℕ) (l : length bytes ≡ 80) (all : AllByRecursion Byte bytes) (h : Faultless bytes) where
  pattern_again : (at : ℕ) → float_is_finite (value_of (number32 bytes at)) ≡ true → bytes32 (pattern_of (value_of (number32 bytes at))) ≡ bytes32 (number32 bytes at)
  pattern_again at e = ap bytes32 (pattern_value (number32 bytes at) (below32 bytes all at) e)

  front_again : field_bytes (fields_at bytes) ++ reading_bytes (reading_at bytes) ≡ take 28 bytes
  front_again =
      same_front (get_or bytes 0 0) (get_or bytes 4 0) (get_or bytes 5 0) (get_or bytes 14 0) (get_or bytes 15 0) (bytes24_number bytes all 1) (bytes24_number bytes all 6) (flags_again (get_or bytes 9 0) h.flags) (bytes32_number bytes all 10) (bytes32_number bytes all 16)
      (pattern_again 20 h.lawful.reading.0.0 ∙ bytes32_number bytes all 20)
      (pattern_again 24 h.lawful.reading.1.0 ∙ bytes32_number bytes all 24)
      ∙ listed_is 28 0 bytes (omega arith)

  reserved_again : replicate 7 0 ≡ drop 73 bytes
  reserved_again =
      let n : length (drop 73 bytes) ≡ 7 = simp length-drop (omega arith) in
      sym (zeros_are (drop 73 bytes) h.zeros ∙ ap (λ (k : ℕ). replicate k 0) n)

  same_bytes : encoded (decoded bytes) ≡ bytes
  same_bytes =
      ap (λ (t : List ℕ). t ++ take 45 (drop 28 bytes) ++ replicate 7 0) front_again
      ∙ ap (λ (t : List ℕ). take 28 bytes ++ take 45 (drop 28 bytes) ++ t) reserved_again
      ∙ three_parts 28 45 bytes

pub encodes_again : (bytes : List ℕ) (r : Record) → length bytes ≡ 80 → AllByRecursion Byte bytes → fault_of bytes ≡ None → r ≡ decoded bytes → EncodesAgain bytes r
encodes_again bytes r l all e is =
    let h = from_faultless bytes l all e in
    subst (EncodesAgain bytes) (sym is) (record { lawful = h.lawful; same = same_bytes bytes l all h })
