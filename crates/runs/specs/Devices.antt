-- What one channel of a panel does. The laws over runs know no more of frames, codes and loads than this.
use Rattle.std.specs.Prelude.{◌≡◌, ℕ, Bool, true, false, List, Option}

pub record Device : Type 1 where
  -- the record of a channel, a character of the line, a local operation (a sample or a key turn), an answer
  pub Record : Type 0
  pub Character : Type 0
  pub Operation : Type 0
  pub Answer : Type 0
  -- what a record keeps from set-up on, and what the history of its channel tells of it
  pub Nameplate : Type 0
  pub Grant : Type 0
  -- whether a character may be taken
  pub acceptable? : Character → Bool
  -- whether a transmission means a channel; whether it is a setpoint command past every refusal but the header's
  pub meant? : Record → List Character → Bool
  pub asks? : Record → List Character → Bool
  -- the record and the answer where the header does not object; the answer where it does; which answers those are
  pub served : Record → List Character → Record
  pub reply : Record → List Character → Answer
  pub denial : Record → List Character → Answer
  pub denial? : Answer → Bool
  -- a local operation: the record after it, and the number by which it is refused, if it is
  pub operated : Record → Operation → Record
  pub refusal : Record → Operation → Option ℕ
  pub nameplate : Record → Nameplate
  pub grant : Record → Grant
  -- what an answer to a transmission, and a local operation with its refusal, make of what the history tells
  pub after_answer : Grant → List Character → Answer → Grant
  pub after_operation : Grant → Operation → Option ℕ → Grant
  -- what a channel draws of the header; what a setpoint command asks of it
  pub share : Nameplate → Grant → ℕ
  pub asked : Nameplate → List Character → ℕ
  -- whether a transmission is a setpoint command; whom it means and whether it asks, by nameplate and history alone
  pub setpoint? : List Character → Bool
  pub meant_by? : Nameplate → Grant → List Character → Bool
  pub asks_by? : Nameplate → Grant → List Character → Bool
  -- a sound transmission with one character damaged on the line; an answer that only tells a communication error
  pub Damaged : List Character → Type 0
  pub CommunicationError : Answer → Type 0

-- what a device owes to the laws, of each of its records and each transmission
pub record DeviceLaws (D : Device) : Type 0 where
  pub served_nameplate : (r : D.Record) (pending : List D.Character) → D.nameplate (D.served r pending) ≡ D.nameplate r
  pub operated_nameplate : (r : D.Record) (operation : D.Operation)
      → D.nameplate (D.operated r operation) ≡ D.nameplate r
  pub served_grant : (r : D.Record) (pending : List D.Character)
      → D.grant (D.served r pending) ≡ D.after_answer (D.grant r) pending (D.reply r pending)
  pub denied_grant : (r : D.Record) (pending : List D.Character) → D.asks? r pending ≡ true
      → D.after_answer (D.grant r) pending (D.denial r pending) ≡ D.grant r
  pub operated_grant : (r : D.Record) (operation : D.Operation)
      → D.grant (D.operated r operation) ≡ D.after_operation (D.grant r) operation (D.refusal r operation)
  -- only a setpoint command that asks moves the share, and moves it to what it asks
  pub served_share : (r : D.Record) (pending : List D.Character) → D.asks? r pending ≡ false
      → D.share (D.nameplate r) (D.grant (D.served r pending)) ≡ D.share (D.nameplate r) (D.grant r)
  pub asked_share : (r : D.Record) (pending : List D.Character) → D.asks? r pending ≡ true
      → D.share (D.nameplate r) (D.grant (D.served r pending)) ≡ D.asked (D.nameplate r) pending
  pub operated_share : (r : D.Record) (operation : D.Operation)
      → D.share (D.nameplate r) (D.grant (D.operated r operation)) ≡ D.share (D.nameplate r) (D.grant r)
  -- the header's refusal is told from every other answer
  pub reply_differs : (r : D.Record) (pending : List D.Character) → D.meant? r pending ≡ true
      → D.denial? (D.reply r pending) ≡ false
  pub denial_is : (r : D.Record) (pending : List D.Character) → D.meant? r pending ≡ true → D.asks? r pending ≡ true
      → D.denial? (D.denial r pending) ≡ true
  -- a setpoint command is judged by nameplate and history
  pub asks_setpoint : (r : D.Record) (pending : List D.Character) → D.asks? r pending ≡ true
      → D.setpoint? pending ≡ true
  pub asks_by : (r : D.Record) (pending : List D.Character)
      → D.asks? r pending ≡ D.asks_by? (D.nameplate r) (D.grant r) pending
  pub meant_by : (r : D.Record) (pending : List D.Character) → D.setpoint? pending ≡ true
      → D.meant? r pending ≡ D.meant_by? (D.nameplate r) (D.grant r) pending
  -- a damaged transmission changes nothing and asks for nothing
  pub damaged_served : (r : D.Record) (pending : List D.Character) → D.Damaged pending → D.served r pending ≡ r
  pub damaged_asks : (r : D.Record) (pending : List D.Character) → D.Damaged pending → D.asks? r pending ≡ false
  pub damaged_reply : (r : D.Record) (pending : List D.Character) → D.Damaged pending → D.meant? r pending ≡ true
      → D.CommunicationError (D.reply r pending)
