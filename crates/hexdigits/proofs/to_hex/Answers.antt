use Rattle.std.proofs.Common.{◌≡◌, ◌<◌, ◌++◌, List, ℕ, IsUtf8, ap, sym, subst, ◌∙◌, true≢false, arith}
use Rattle.std.specs.List.{AllByRecursion}
use Rattle.std.proofs.ByRecursion.{All-from_get_or, IsAscii-from_all}
use Rattle.std.proofs.lemmas.Str.{IsUtf8-from_ascii}
use Rattle.hexdigits.specs.Hex.{hex_of}
use Rattle.hexdigits.proofs.Reading.{hex_back, hex_ascii}
use Rattle.hexdigits.proofs.to_hex.Goals as goal

pub returns-in_err-text-clause-back : goal.returns-in_err-text-clause-back
returns-in_err-text-clause-back c = hex_back c.args.bytes.now (All-from_get_or (λ b. b < 256) c.args.bytes.now 0 (λ i _. omega (arith, c.type_inv.bytes i)))

pub returns-in_err-push_hex-clause-back : goal.returns-in_err-push_hex-clause-back
returns-in_err-push_hex-clause-back c = c.in_err-push_hex.ensures.back

pub returns-clause-back : goal.returns-clause-back
returns-clause-back c = hex_back c.args.bytes.now (All-from_get_or (λ b. b < 256) c.args.bytes.now 0 (λ i _. omega (arith, c.type_inv.bytes i)))

pub unreachable-requires : goal.unreachable-requires
unreachable-requires c =
    let all = All-from_get_or (λ b. b < 256) c.args.bytes.now 0 (λ i _. omega (arith, c.type_inv.bytes i)) in
    let made : c.push_hex.new.text.items ≡ hex_of c.args.bytes.now = c.in_ok-push_hex.ensures.text ∙ ap (λ l. l ++ hex_of c.args.bytes.now) c.in_ok-text.ensures.items in
    true≢false (sym (c.in-Err.ensures.succeeds (subst IsUtf8 (sym made) (IsUtf8-from_ascii (hex_of c.args.bytes.now) (IsAscii-from_all (hex_of c.args.bytes.now) (hex_ascii c.args.bytes.now all))))))
