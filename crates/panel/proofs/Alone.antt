-- A panel under way and one that holds one of its channels alone.
use Rattle.std.proofs.Common.{◌≡◌, ℕ, Bool, true, false, List, [], ◌∷◌, is_some, Some, None, Option, slice_get, sym, refl, ap, ◌∙◌, ap₂, true≢false}
use Rattle.std.specs.Option.{option_map}
use Rattle.std.specs.Str.{bytes_eq}
use lib.Pointwise.{bytes_decides}
use Rattle.rack.specs.declared.racks.Rack.{Ghosts}
use Rattle.record.specs.Layout.{encoded}
use Rattle.record.specs.declared.Record.{Record}
use Rattle.runs.specs.Channel.{flow_channel}
use Rattle.runs.specs.Histories.{pending_after}
use Rattle.runs.proofs.Places.{get_at}
use Rattle.runs.proofs.SetUps.{runs_alike}
use Rattle.setup.specs.SetUps.{set_up_refusal}
use Rattle.setup.proofs.SetUps.{unrefused}
use Rattle.panel.specs.declared.state.Panel.{Panel}
use Rattle.panel.specs.Alone.{only_record?, Isolates}
use Rattle.panel.specs.Panels.{channels_of, channel_in, channels_in, records_in}

-- the only one of a list, by what stands at its first two places
pub compared : (o : Option Record) (qs : List Record) (mine first : List ℕ) (second : Option (List ℕ)) (told : Bool) → Some mine ≡ option_map encoded o → Some first ≡ option_map encoded (slice_get qs 0)
    → second ≡ option_map encoded (slice_get qs 1) → is_some second ≡ false → told ≡ bytes_eq mine first → told ≡ only_record? o qs
compared None qs mine first second told a b c d e = absurd (cc)
compared (Some r) [] mine first second told a b c d e = absurd (cc)
compared (Some r) (q ∷ []) mine first second told a b c d e =
    let m : mine ≡ encoded r = cc in
    let f : first ≡ encoded q = cc in
    e ∙ ap₂ bytes_eq m f
compared (Some r) (q ∷ s ∷ qs) mine first second told a b c d e = absurd (true≢false (sym (ap is_some c) ∙ d))

-- a record is itself
same_bytes : (r : Record) → bytes_eq (encoded r) (encoded r) ≡ true
same_bytes r = (bytes_decides (encoded r) (encoded r)).1 refl

module _ {X Y : Type 0} {G : Ghosts X} {H : Ghosts Y} where
  pub isolates : (p : Panel X G) (place : ℕ) (q : Panel Y H) (told : Bool) → told ≡ only_record? (channel_in p place) (channels_in q) → Isolates p place q told
  isolates p place q told e supply before trace r u a =
      let taken = u.promised.alone place r a in
      record {
        unrefused = λ holds. ap (set_up_refusal supply) holds ∙ unrefused supply (r ∷ []) taken;
        set_up = taken;
        alike = λ alone v calls.
            let l = runs_alike supply before (records_in p) trace (pending_after flow_channel [] trace) u.set_up u.ran place r a alone (records_in q) (pending_after flow_channel [] alone) v.ran calls in
            let mine : channel_in p place ≡ Some l.r' = ap (λ (s : Option ℕ). slice_get (channels_of s (records_in p)) place) u.supply_is ∙ get_at l.stands in
            let others : channels_in q ≡ l.r' ∷ [] = ap (λ (s : Option ℕ). channels_of s (records_in q)) v.supply_is ∙ l.same_record in
            (l, e ∙ (ap₂ only_record? mine others ∙ same_bytes l.r'));
      }
