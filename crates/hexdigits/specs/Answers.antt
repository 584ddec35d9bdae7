-- What a reading of hexadecimal text answers.
use Rattle.std.specs.Prelude.{◌≡◌, ℕ, Bool, true, false, List, [], ◌∷◌, codes, Some, None, Ok, Err, vec_items, Option, Result, Vec}
use Rattle.std.specs.declared.alloc.Global.{Global}
use Rattle.hexdigits.specs.declared.HexFault.{HexFault}
use Rattle.hexdigits.specs.declared.HexFault.TheVariants.{NotHex, Memory}

-- whether there are bytes, and at least one
abbrev pub some_bytes? : Option (List ℕ) → Bool
some_bytes? None = false
some_bytes? (Some []) = false
some_bytes? (Some (b ∷ bytes)) = true

-- the bytes, or a fault where the text is no hexadecimal; want of memory comes only where there is a byte to keep
abbrev pub Reads : Option (List ℕ) → Result (Vec ℕ Global) HexFault → Type 0
Reads bytes (Ok v) = bytes ≡ Some (vec_items v)
Reads bytes (Err NotHex) = bytes ≡ None
Reads bytes (Err Memory) = some_bytes? bytes ≡ true

-- the words in which a fault is printed
abbrev pub words_of : HexFault → List ℕ
words_of NotHex = codes "not capital hexadecimal"
words_of Memory = codes "no memory"
