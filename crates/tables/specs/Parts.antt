-- Bytes, masters and widths of addresses as they are printed.
use Rattle.std.specs.Prelude.{ℕ, List, [], ◌∷◌, codes}
use Rattle.std.specs.List.{join_by}
use Rattle.hexdigits.specs.Hex.{hex_of}
use Rattle.frame.specs.declared.Master.{Master}
use Rattle.frame.specs.declared.Master.TheVariants.{Secondary, Primary}
use Rattle.frame.specs.declared.Address.{Address}
use Rattle.frame.specs.declared.Address.TheVariants.{Short, Long}

-- two digits for each byte, with a space between
abbrev pub spaced_hex : List ℕ → List ℕ
spaced_hex bytes = join_by (λ b. hex_of (b ∷ [])) (32 ∷ []) bytes

abbrev pub master_words : Master → List ℕ
master_words Secondary = codes "secondary"
master_words Primary = codes "primary"

abbrev pub width_words : Address → List ℕ
width_words (Short bytes) = codes "short"
width_words (Long bytes) = codes "long"
