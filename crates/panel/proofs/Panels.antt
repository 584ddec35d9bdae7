-- A panel is its rack, its receiver and its supply.
use Rattle.std.proofs.Common.{◌≡◌, ℕ, ◌≤◌, length, IfSome, Some, None, Option, sym, subst, arith}
use Rattle.std.proofs.Props.{props}
use Rattle.rack.specs.declared.racks.Rack.{Ghosts}
use Rattle.panel.specs.declared.state.Panel.{Panel}

few_prop : (supply : Option ℕ) (n : ℕ) → IsProp (IfSome supply (λ _. n ≤ 15))
few_prop supply n = hlevel props

-- with the same rack it is the same panel
pub same_panel : {X : Type 0} {G : Ghosts X} (p : Panel X G) (rack : X) (few : IfSome p.supply (λ _. length (G.records rack) ≤ 15)) → rack ≡ p.rack
    → ◌≡◌ {A = Panel X G} (record { rack = rack; receiver = p.receiver; supply = p.supply; few = few }) p
same_panel {X} {G} p rack few e =
    let P : X → Type 0 = λ (r : X). (w : IfSome p.supply (λ _. length (G.records r) ≤ 15)) → ◌≡◌ {A = Panel X G} (record { rack = r; receiver = p.receiver; supply = p.supply; few = w }) p in
    subst P (sym e) (λ w i. record { rack = p.rack; receiver = p.receiver; supply = p.supply; few = few_prop p.supply (length (G.records p.rack)) w p.few i }) few

-- a rack that keeps its number of channels has few as before
pub few_after : (supply : Option ℕ) (n m : ℕ) → IfSome supply (λ _. n ≤ 15) → m ≡ n → IfSome supply (λ _. m ≤ 15)
few_after (Some k) n m few e = omega arith
few_after None n m few e = tt
