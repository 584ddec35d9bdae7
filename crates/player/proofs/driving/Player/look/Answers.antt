use Rattle.std.proofs.Common.{◌≡◌, ◌++◌, ◌∷◌, [], List, ℕ, true, replicate, refl, ap, ◌∙◌, slice_get}
use Rattle.hexdigits.specs.Hex.{hex_of}
use Rattle.stream.specs.Streams.{view_of, with_told}
use Rattle.player.specs.Outputs.{look_line, lines_of}
use Rattle.player.proofs.Pauses.{channels_are, stands_lawful, looked, look_refused}
use Rattle.player.proofs.Printing.{line_printed}
use Rattle.player.proofs.driving.Player.look.Goals as goal

pub returns-in_ok-print-in-Ok-clause-looked : goal.returns-in_ok-print-in-Ok-clause-looked
returns-in_ok-print-in-Ok-clause-looked g c = λ s taken most total w.
    let k = channels_are c.args.panel.now s w.0 in
    let answer = rw k at c.in-Ok.ensures.answer in
    let buffer = rw k at c.in-Ok.ensures.buffer in
    let found = slice_get s.records c.args.channel in
    let is : c.as_slice.result.now ≡ look_line found = c.as_slice.ensures.value ∙ (c.in_ok-extend_from_slice-in-Ok.ensures.items ∙ ap (λ (l : List ℕ). l ++ 10 ∷ []) (c.in_ok-push_hex-in-Ok.ensures.text ∙ ap (λ (l : List ℕ). l ++ hex_of c.look.new.out) c.new-line.ensures.items)) ∙ looked s.records c.args.channel (replicate 80 0) c.look.new.out refl (stands_lawful c.args.panel.now s w.0 c.args.panel.now.rack.lawful) answer buffer in
    let before = view_of c.args.self.now.stream in
    line_printed g.R.Read.remaining g.W.Write.contents before (view_of c.print.new.self) true (look_line found) (lines_of c.args.self.now.format s) taken most total (c.in_ok-print-in-Ok.ensures ∙ ap (λ l. with_told true l before) is) refl w.1

pub returns-in_ok-tell-in-Err-clause-looked : goal.returns-in_ok-tell-in-Err-clause-looked
returns-in_ok-tell-in-Err-clause-looked g c = λ s taken most total w.
    let k = channels_are c.args.panel.now s w.0 in
    let answer = rw k at c.in-Err.ensures.answer in
    let found = slice_get s.records c.args.channel in
    let before = view_of c.args.self.now.stream in
    line_printed g.R.Read.remaining g.W.Write.contents before (view_of c.tell.new.self) true (look_line found) (lines_of c.args.self.now.format s) taken most total
    (c.in_ok-tell-in-Err.ensures.told ∙ ap (λ l. with_told true l before) (look_refused found (replicate 80 0) _ refl answer)) refl w.1
