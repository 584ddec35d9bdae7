use Rattle.std.proofs.Common.{◌≡◌, ℕ, ◌+◌, ◌-◌, ◌≤◌, List, [], ◌∷◌, ◌++◌, length, take, drop, ap, ◌∙◌, append_assoc, arith, length-append}
use Rattle.frame.specs.Check.{check_of}
use Rattle.frame.specs.Views.{address_bytes}
use Rattle.refusals.proofs.Placing.{Wrote, wrote_more, placed_part}
use Rattle.frame.proofs.maker.put_frame.Goals as goal

pub returns : goal.returns
returns c =
    let at = c.args.at in
    let e : length c.bytes.result.now ≡ length (address_bytes c.args.parts.address) = ap length c.bytes.ensures.value in
    let out = c.args.out.now in
    let a = c.bytes.result.now in
    let d = c.args.parts.«data».now in
    let head : List ℕ = c.args.parts.command ∷ length d ∷ [] in
    let start : List ℕ = c.args.start ∷ [] in
    let bare : List ℕ = (c.args.start ∷ a) ++ (c.args.parts.command ∷ length d ∷ d) in
    let l1 = length-append (start ++ a) head in
    let l2 = length-append (start ++ a ++ head) d in
    let w1 : Wrote at start out c.put-end.new.out c.put-end.result = record { holds = c.put-end.ensures.after; ends = c.put-end.ensures.next } in
    let w2 = wrote_more a w1 (omega (arith, e, c.requires)) c.put-end-2.ensures.after c.put-end-2.ensures.next in
    let w3 = wrote_more head w2 (omega (arith, e, c.requires)) c.put-end-3.ensures.after c.put-end-3.ensures.next in
    let w4 : Wrote at bare out c.put-end-4.new.out c.put-end-4.result = rw (← append_assoc (start ++ a) head d) (wrote_more d w3 (omega (arith, e, c.requires)) c.put-end-4.ensures.after c.put-end-4.ensures.next) in
    let room : at + length bare ≤ length out = omega (arith, e, c.requires, length-append (start ++ a) (c.args.parts.command ∷ length d ∷ d)) in
    let n : c.put-end-4.result - at ≡ length bare = omega (arith, w4.ends) in
    let check : c.check-check.result ≡ check_of bare =
    let part : take (c.put-end-4.result - at) (drop at c.put-end-4.new.out) ≡ bare = rw (n, w4.holds) (placed_part at bare out room) in
    c.check-check.ensures ∙ ap check_of part in
    let w5 = wrote_more (check_of bare ∷ []) w4 room (rw (← check) c.put.ensures.after) c.put.ensures.next in
    record { next = rw (← c.bytes.ensures.value) w5.ends; after = rw (← c.bytes.ensures.value) w5.holds }
