use Rattle.std.proofs.Common.{rules, ◌≡◌, ◌≤◌, length, ap, ◌∙◌, arith}
use Rattle.std.proofs.lemmas.Option.{MatchOption-at_some}
use Rattle.frame.specs.Views.{frame_parts}
use Rattle.serving.proofs.Searching.{next_found}
use Rattle.serving.specs.Meant.{meant_at?}
use Rattle.serving.proofs.Sole.{first_meant, second_meant, too_many, told_exactly}
use Rattle.serving.proofs.choosing.sole_meant.Goals as goal

pub returns-in_err-channel : goal.returns-in_err-channel
returns-in_err-channel g c =
    let records = g.R.Rack.records c.args.rack.now in
    let f = frame_parts c.args.frame in
    let few : length records ≤ 15 = omega (arith, c.count-count.ensures) in
    let all : c.count-count.result ≡ length records = omega (arith, c.count-count.ensures) in
    let from = c.filter-meant.ensures.source ∙ ap (λ n. record { start = 0; end = n }) all in
    let found = next_found _ _ (meant_at? f records) (λ x b q k. search rules) c.filter-meant.result c.next.new.self c.next.result c.filter-meant.ensures.closure c.next.ensures.steps in
    let v = c.from_residual.ensures ∙ first_meant _ _ f records _ few c.filter-meant.result c.next.new.self c.next.new.self from c.next.result c.in_err-channel.was found in
    record { value = v; exact = told_exactly f records _ v }

pub returns : goal.returns
returns g c =
    let records = g.R.Rack.records c.args.rack.now in
    let f = frame_parts c.args.frame in
    let few : length records ≤ 15 = omega (arith, c.count-count.ensures) in
    let all : c.count-count.result ≡ length records = omega (arith, c.count-count.ensures) in
    let from = c.filter-meant.ensures.source ∙ ap (λ n. record { start = 0; end = n }) all in
    let i = c.in_ok-channel.channel in
    let found = MatchOption-at_some _ _ i c.in_ok-channel.was (next_found _ _ (meant_at? f records) (λ x b q k. search rules) c.filter-meant.result c.next.new.self c.next.result c.filter-meant.ensures.closure c.next.ensures.steps) in
    let more = next_found _ _ (meant_at? f records) (λ x b q k. search rules) c.next.new.self c.next-2.new.self c.next-2.result found.callee c.next-2.ensures.steps in
    let v = c.then_some.ensures ∙ second_meant _ _ f records _ few c.filter-meant.result c.next.new.self c.next-2.new.self from i found c.next-2.result c.is_none.result more c.is_none.ensures in
    record { value = v; exact = told_exactly f records _ v }

pub returns-then-count-gt-MAX_CHANNELS : goal.returns-then-count-gt-MAX_CHANNELS
returns-then-count-gt-MAX_CHANNELS g c =
    let records = g.R.Rack.records c.args.rack.now in
    let f = frame_parts c.args.frame in
    let v = too_many f records (omega (arith, c.count-count.ensures)) in
    record { value = v; exact = told_exactly f records _ v }
