-- Every run from a set-up that was taken keeps the promise.
use Rattle.std.proofs.Common.{◌≡◌, ℕ, ◌+◌, ◌≤◌, List, [], ◌∷◌, sym, refl, ap, ◌∙◌, arith}
use Rattle.header.specs.Shares.{capacity_of, total_share, fields_share}
use Rattle.record.specs.declared.Record.{Record}
use Rattle.runs.specs.Channel.{flow_channel}
use Rattle.runs.specs.Places.{At, here, there}
use Rattle.runs.specs.SetUps.{SetUp, RunsPromised, RunsAlike, CallsFollow, CallsDetermined}
use Rattle.runs.specs.Shares.{total}
use Rattle.runs.proofs.Channel.{flow_channel_laws}
use Rattle.runs.proofs.Outcomes.{follows, determined}
use Rattle.runs.proofs.Promises.{promise, alike}
use Rattle.runs.proofs.Places.{at_sole}

-- the sum of the shares as the header weighs it
pub total_shares : (records : List Record) → total flow_channel records ≡ total_share records
total_shares [] = refl
total_shares (r ∷ records) = ap (λ n. fields_share r.fields + n) (total_shares records)

-- a channel's share is a part of the sum
part : {records : List Record} {k : ℕ} {r : Record} → At records k r → fields_share r.fields ≤ total_share records
part here = omega arith
part (there a) = let h = part a in omega arith

pub alone : (supply : ℕ) (records : List Record) → SetUp supply records → (k : ℕ) (r : Record) → At records k r → SetUp supply (r ∷ [])
alone supply records s k r a = record {
  supplied = s.supplied;
  few = omega arith;
  distinct = λ i j p q b c _ _. at_sole b ∙ sym (at_sole c);
  fits = let h = part a in let f = s.fits in omega arith;
}

pub promised : RunsPromised
promised supply records after trace pending s w = record {
  alone = alone supply records s;
  kept = promise flow_channel (capacity_of supply) flow_channel_laws records after trace pending w (let e = total_shares records in let f = s.fits in omega arith);
}

-- the lone panel of the promise, as another run
pub runs_alike : RunsAlike
runs_alike supply records after trace pending s w =
    alike flow_channel (capacity_of supply) flow_channel_laws records after trace pending w (let e = total_shares records in let f = s.fits in omega arith)

pub calls_follow : CallsFollow
calls_follow supply = follows flow_channel (capacity_of supply)

pub calls_determined : CallsDetermined
calls_determined supply = determined flow_channel (capacity_of supply)
