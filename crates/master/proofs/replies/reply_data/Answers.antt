use Rattle.std.proofs.Common.{◌≡◌, ◌-◌, ◌≤◌, List, ℕ, length, take, drop, Some, None, Option, Result, leb, le-leb, ap, sym, ◌∙◌}
use Rattle.std.specs.Option.{option_and_then}
use Rattle.std.specs.Result.{result_ok}
use Rattle.std.proofs.lemmas.List.{take_rest}
use Rattle.std.proofs.lemmas.Bool.{cond-true}
use Rattle.frame.specs.Transmissions.{Request}
use Rattle.master.specs.Replies.{behind_status}
use Rattle.master.proofs.replies.reply_data.Goals as goal

abbrev behind : Result Request ℕ → Option (List ℕ)
behind r = option_and_then (λ q. behind_status q.«data») (result_ok r)

long : (content : List ℕ) → 2 ≤ length content → Some (take (length content - 2) (drop 2 content)) ≡ behind_status content
long content h = ap Some (take_rest content 2) ∙ sym (cond-true (leb 2 (length content)) (Some (drop 2 content)) None (le-leb 2 (length content) h))

pub returns-in-len2-up : goal.returns-in-len2-up
returns-in-len2-up c =
    let h = c.in-len2-up.len_at_least in
    long c.in-Ok.reply.«data».now h ∙ ap behind c.in-Ok.ensures.value
