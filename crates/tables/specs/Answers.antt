-- What a reading of bytes answers.
use Rattle.std.specs.Prelude.{◌≡◌, ℕ, true, List, codes, Some, None, Ok, Err, vec_items, Option, Result, Vec}
use Rattle.std.specs.declared.alloc.Global.{Global}
use Rattle.hexdigits.specs.declared.HexFault.{HexFault}
use Rattle.hexdigits.specs.declared.HexFault.TheVariants.{NotHex, Memory as NoMemory}
use Rattle.hexdigits.specs.Answers.{some_bytes?}
use Rattle.tables.specs.declared.words.WordFault.{WordFault}
use Rattle.tables.specs.declared.words.WordFault.TheVariants.{NotBytes, NotPattern, Memory}

-- the bytes, or a fault where there are none to read; want of memory comes only where there is a byte to keep
abbrev pub Reads : Option (List ℕ) → Result (Vec ℕ Global) WordFault → Type 0
Reads bytes (Ok v) = bytes ≡ Some (vec_items v)
Reads bytes (Err NotBytes) = bytes ≡ None
Reads bytes (Err NotPattern) = ⊥
Reads bytes (Err Memory) = some_bytes? bytes ≡ true

-- a fault of the digits, as one of the word
abbrev pub told_of : HexFault → WordFault
told_of NotHex = NotBytes
told_of NoMemory = Memory

-- the words in which a fault is printed
abbrev pub words_of : WordFault → List ℕ
words_of NotBytes = codes "a word that is no bytes"
words_of NotPattern = codes "a word that is no pattern"
words_of Memory = codes "no memory"
