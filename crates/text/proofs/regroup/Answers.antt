use Rattle.std.proofs.Common.{◌≡◌, ◌+◌, ◌-◌, ◌*◌, ◌/◌, ◌<◌, length, take, drop, refl, ap, ◌∙◌, arith}
use Rattle.std.proofs.Math.Nat.{div-lt_iff_lt-mul}
use Rattle.refusals.proofs.Filling.{fills_short}
use Rattle.text.proofs.Groups.{chunk_at, length_grouped, filled_more}
use Rattle.text.proofs.regroup.Goals as goal

pub returns-then-out-groups : goal.returns-then-out-groups
returns-then-out-groups g c =
    let l = length_grouped g.C.Code.coded g.row.N g.row.M g.met.C.Code.sized (length c.args.from.now / g.row.N) c.args.from.now in
    let h : length c.args.out.now < length c.args.from.now / g.row.N * g.row.M = (div-lt_iff_lt-mul c.requires.sizes.1).0 (omega arith) in
    fills_short refl (omega (arith, l))

pub loop-i-preserved : goal.loop-i-preserved
loop-i-preserved g c =
    let k : (c.loop-i.i + 1) * g.row.M - c.loop-i.i * g.row.M ≡ g.row.M = omega arith in
    let e = chunk_at g.row.N (length c.args.from.now / g.row.N) c.args.from.now c.loop-i.i c.index-groups-i.result (omega (arith, c.as_chunks.ensures.front_len)) in
    let group : c.index-groups-i.result ≡ take g.row.N (drop (c.loop-i.i * g.row.N) c.args.from.now) = cc in
    filled_more g.C.Code.coded g.row.N g.row.M g.met.C.Code.sized c.loop-i.i c.args.from.now c.args.out.now c.loop-i.invariant k (c.copy_from_slice.ensures.after ∙ (c.code.ensures ∙ ap g.C.Code.coded group))
