-- What is done with a panel between the calls of a run.
use Rattle.std.proofs.Common.{◌≡◌, ℕ, zero, suc, ◌+◌, ◌≤◌, nat_lt, Bool, false, cond, List, [], ◌∷◌, ◌++◌, length, drop, replicate, slice_get, Option, Some, None, Result, Ok, Err, OnOk, sym, refl, ap, ◌∙◌, subst, subst₂, append-nil, arith}
use Rattle.std.proofs.lemmas.Bool.{le-ltb}
use Rattle.std.proofs.lemmas.List.{drop_all, length-append}
use Rattle.std.specs.List.{AllByRecursion}
use Rattle.header.specs.Shares.{capacity_of}
use Rattle.hexdigits.specs.Hex.{hex_of}
use Rattle.line.specs.Characters.{Character}
use Rattle.panel.specs.Panels.{records_in, channels_of, channels_in, look_record, look_buffer}
use Rattle.panel.specs.Working.{Driven, Underway, WorkedOn}
use Rattle.panel.specs.declared.driver.Driver as drivers
use Rattle.panel.specs.declared.state.Panel.{Panel}
use Rattle.rack.specs.declared.racks.Rack.{Ghosts}
use Rattle.record.specs.Lawful.{Lawful}
use Rattle.record.specs.Layout.{field_bytes, reading_bytes, encoded}
use Rattle.record.specs.declared.Record.{Record}
use Rattle.recording.specs.Lines.{refusal_line}
use Rattle.refusals.specs.Filling.{in_front}
use Rattle.refusals.specs.Refusals.{number_of}
use Rattle.runs.proofs.Runs.{run_split, same_run}
use Rattle.runs.specs.Channel.{flow_channel}
use Rattle.runs.specs.Histories.{pending_after}
use Rattle.runs.specs.Steps.{Run}
use Rattle.stream.specs.Streams.{view_of}
use Rattle.player.specs.Outputs.{State, set_up_state, look_line, lines_of}
use Rattle.player.specs.Players.{Prints, Names, Hears, Stopped, Ends}
use Rattle.player.specs.Playing.{fault_seen, play_refusal, fault_line, Stands}
use Rattle.player.specs.declared.driving.Player.{Player}
use Rattle.player.specs.declared.playing.PlayFault.{PlayFault}
use Rattle.player.specs.declared.playing.PlayFault.TheVariants.{File, SetUp}
use Rattle.player.specs.declared.progress.Progress.TheVariants.{Going}
use Rattle.player.proofs.Printing.{driven}
use Rattle.record.specs.Numbers.{record_length}

-- the channels of a panel that was set up
pub channels_are : {X : Type 0} {G : Ghosts X} (panel : Panel X G) (s : State) → Stands panel s → channels_in panel ≡ s.records
channels_are panel s stands = ap (λ (o : Option ℕ). channels_of o (records_in panel)) stands.underway.supply_is ∙ sym stands.records_are

-- what holds where a call succeeded
pub on_ok : {T E : Type 0} (r : Result T E) {A B : Type 0} → (A → B) → OnOk r A → OnOk r B
on_ok (Ok x) f a = f a
on_ok (Err e) f a = a

-- the records of a panel that was set up are lawful, and so of 80 bytes each
pub stands_lawful : {X : Type 0} {G : Ghosts X} (panel : Panel X G) (s : State) → Stands panel s → AllByRecursion Lawful (records_in panel) → AllByRecursion Lawful s.records
stands_lawful panel s stands all = subst (AllByRecursion Lawful) (sym stands.records_are) all

at_lawful : (records : List Record) (place : ℕ) (r : Record) → AllByRecursion Lawful records → slice_get records place ≡ Some r → Lawful r
at_lawful [] zero r all e = cc
at_lawful [] (suc place) r all e = cc
at_lawful (q ∷ records) zero r all e = let k : q ≡ r = cc in subst Lawful k all.0
at_lawful (q ∷ records) (suc place) r all e = at_lawful records place r all.1 e

encoded_length : (r : Record) → length r.text ≡ 45 → length (encoded r) ≡ 80
encoded_length r h =
    let front = field_bytes r.fields ++ reading_bytes r.reading in
    let numbers : length front ≡ 28 = refl in
    omega (arith, numbers, h, length-append (front ++ r.text) (replicate 7 0), length-append front r.text)

-- the line of a look that is taken, and of one that is refused
look_taken : (o : Option Record) (zeros bytes : List ℕ) → length zeros ≡ 80 → ((r : Record) → o ≡ Some r → Lawful r) → ◌≡◌ {A = Result (Unit {0}) ℕ} (Ok tt) (look_record zeros o) → bytes ≡ look_buffer zeros o → hex_of bytes ++ 10 ∷ [] ≡ look_line o
look_taken None zeros bytes h lawful e f = cc
look_taken (Some r) zeros bytes h lawful e f =
    let text : length r.text ≡ 45 = (lawful r refl).text in
    let enough : nat_lt (length zeros) record_length ≡ false = le-ltb (length zeros) record_length (omega (arith, h)) in
    let all : drop (length (encoded r)) zeros ≡ [] = drop_all (length (encoded r)) zeros (omega (arith, h, encoded_length r text)) in
    let filled : bytes ≡ encoded r =
    f ∙ (ap (λ (short? : Bool). cond short? zeros (in_front (encoded r) zeros)) enough ∙ (ap (λ (l : List ℕ). encoded r ++ l) all ∙ append-nil (encoded r))) in
    ap (λ (b : List ℕ). hex_of b ++ 10 ∷ []) filled

pub looked : (records : List Record) (place : ℕ) (zeros bytes : List ℕ) → length zeros ≡ 80 → AllByRecursion Lawful records
    → ◌≡◌ {A = Result (Unit {0}) ℕ} (Ok tt) (look_record zeros (slice_get records place)) → bytes ≡ look_buffer zeros (slice_get records place) → hex_of bytes ++ 10 ∷ [] ≡ look_line (slice_get records place)
looked records place zeros bytes h all e f = look_taken (slice_get records place) zeros bytes h (λ r at. at_lawful records place r all at) e f

pub look_refused : (o : Option Record) (zeros : List ℕ) (number : ℕ) → length zeros ≡ 80 → ◌≡◌ {A = Result (Unit {0}) ℕ} (Err number) (look_record zeros o) → refusal_line number ≡ look_line o
look_refused None zeros number h e = let k : number ≡ 101 = cc in rw k refl
look_refused (Some r) zeros number h e = let k : ◌≡◌ {A = Result (Unit {0}) ℕ} (Err number) (Ok tt) = e ∙ rw h refl in cc

-- a set-up that is taken
pub set_up : {X : Type 0} {G : Ghosts X} (s : State) (supply : ℕ) (p p' : Panel X G) → Stands p s → p'.rack ≡ p.rack → Underway supply (records_in p) [] p' → Stands p' (set_up_state supply s.records)
set_up {G = G} s supply p p' stands same underway = record {
  before = records_in p;
  trace = [];
  underway = underway;
  records_are = stands.records_are ∙ ap G.records (sym same);
  pending_is = refl;
}

module _ {R W : Type 0} (remaining : R → Option (List ℕ)) (contents : W → Option (List ℕ)) (D : drivers.Ghosts (Player R W)) (buffer buffer' : List ℕ) (enough : 64 ≤ length buffer) (p p' : Player R W) {X : Type 0} {G : Ghosts X} (panel panel' : Panel X G) where
  -- a run that goes on
  pub worked_on : (s : State) → Stands panel s → (w : WorkedOn D panel panel' p p' buffer buffer') → Driven (Names remaining contents) (λ d d' e. Hears d d' e) (length buffer) (Ends remaining contents) p w.trace p' → (taken most : ℕ) (total : List ℕ)
      → p.progress ≡ Going → Prints remaining contents (view_of p.stream) (lines_of p.format s) taken most total
      → (s' : State) × Stands panel' s' × (taken' : ℕ) × (taken ≤ taken') × Stopped remaining contents p' s' (suc taken') most total
  worked_on s stands w drove taken most total going prints =
      let u = w.underway s.supply stands.before stands.trace stands.underway in
      let capacity = capacity_of s.supply in
      let pending = pending_after flow_channel [] (stands.trace ++ w.trace) in
      let apart = run_split flow_channel capacity stands.trace w.trace u.ran in
      let same = same_run flow_channel capacity apart.until stands.underway.ran refl in
      let run = subst₂ (λ (x : List Record) (y : List Character). Run flow_channel capacity x y w.trace (records_in panel') pending) (same.1 ∙ sym stands.records_are) (same.2 ∙ sym stands.pending_is) apart.onward in
      let s' : State = record { supply = s.supply; records = records_in panel'; pending = pending } in
      let stands' : Stands panel' s' = record { before = stands.before; trace = stands.trace ++ w.trace; underway = u; records_are = refl; pending_is = refl } in (
        s',
        stands',
        taken + length w.trace,
        omega arith,
        driven remaining contents (length buffer) s.supply enough p p' s.records (records_in panel') s.pending pending w.trace drove run taken most total going prints,
      )

-- the line of a fault that a recording is not played by
pub fault_told : (fault : PlayFault) → fault_line (fault_seen fault) ≡ refusal_line (number_of (play_refusal fault))
fault_told (File fault) = refl
fault_told (SetUp refusal) = refl
