-- Worked examples about the definitions: one list of rows, and what each row says.
use Rattle.std.specs.Prelude.{◌≡◌, ℕ, Bool, true, false, List, [], ◌∷◌, ◌++◌, map, replicate, Some, None, Ok, Err, codes, Option, Result}
use Rattle.std.specs.List.{AllByRecursion}
use Rattle.frame.specs.Making.{request?, asked, transmission}
use Rattle.frame.specs.Transmissions.{Request, read_request}
use Rattle.header.specs.Shares.{capacity_of}
use Rattle.line.specs.Answers.{answer_room}
use Rattle.line.specs.Characters.{Character}
use Rattle.player.specs.Playing.{output_of}
use Rattle.record.specs.declared.Record.{Record}
use Rattle.recording.specs.Lines.{line_feed}
use Rattle.recording.specs.declared.events.Format.TheVariants.{Linerun}
use Rattle.runs.specs.Channel.{flow_channel}
use Rattle.runs.specs.Outcomes.{outcome, outcome_of}
use Rattle.runs.specs.SetUps.{largest_supply}
use Rattle.runs.specs.Traces.{Result as CallResult, gap, silent, answered}
use Rattle.setpoint.specs.Load.{has_load?, load_of}
use Rattle.setpoint.specs.Refusals.{admitted_under, code_of}
use Rattle.setpoint.specs.Value.{value_of}
use Rattle.setpoint.specs.declared.SetpointRefusal.{SetpointRefusal}
use Rattle.setup.specs.SetUps.{set_up_refusal}
use Rattle.text.specs.Text.{text?, packed, unpacked}

pub data Row : Type 0 where
  -- a text packs to these bytes, which unpack to it
  packs : List ℕ → List ℕ → Row
  -- a request is sent as these bytes, which read back to it
  sends : Request → List ℕ → Row
  -- a setpoint's pattern has this load
  weighs : ℕ → ℕ → Row
  -- a setpoint's pattern is refused by this number under a ceiling in percent
  refuses : ℕ → ℕ → ℕ → Row
  -- under a supply, a gap after these bytes, unmarked, is answered by the channel of this number, of these, with
  -- those bytes, and those are the channels after it
  answers : ℕ → List Record → List ℕ → ℕ → List ℕ → List Record → Row
  -- under a supply, a gap after these bytes, unmarked, meets silence from these channels, which stay
  silences : ℕ → List Record → List ℕ → Row
  -- of this record file and this recording linerun prints just this line
  prints : List ℕ → List ℕ → List ℕ → Row

-- the number of a refusal, if it is one
abbrev pub code_in : Result ℕ SetpointRefusal → Option ℕ
code_in (Ok load) = None
code_in (Err e) = Some (code_of e)

-- bytes as characters without marks
abbrev pub unmarked : List ℕ → List Character
unmarked bytes = map (λ b. record { byte = b; marks = 0 }) bytes

-- Channels whose set-up is taken under a supply, and then these bytes as characters and a gap: the result of the gap,
-- and the channels after it. Nothing is pending then.
pub record GapAfter (supply : ℕ) (records : List Record) (sent : List ℕ) (result : CallResult flow_channel)
    (after : List Record) : Type 0 where
  pub set_up : set_up_refusal supply records ≡ None
  pub ended : outcome flow_channel (capacity_of supply) records (unmarked sent) (gap answer_room)
      ≡ outcome_of flow_channel result after []

abbrev pub RowHolds : Row → Type 0
RowHolds (packs text bytes) = (text? text ≡ true) × (packed text ≡ bytes) × (unpacked bytes ≡ text)
RowHolds (sends request bytes) =
    (request? request ≡ true) × (transmission request ≡ bytes) × (read_request bytes ≡ Ok request)
RowHolds (weighs pattern load) = (has_load? (value_of pattern) ≡ true) × (load_of (value_of pattern) ≡ load)
RowHolds (refuses pattern ceiling number) = code_in (admitted_under ceiling (value_of pattern)) ≡ Some number
RowHolds (answers supply records sent number answer after) = GapAfter supply records sent (answered number answer) after
RowHolds (silences supply records sent) = GapAfter supply records sent silent records
RowHolds (prints file recording line) = output_of Linerun largest_supply file recording ≡ line ++ line_feed ∷ []

-- a channel of device type 70 and two preambles, with this identification number, polling address, assembly number,
-- key and setpoint, unchanged, its ceiling 100 percent, its full scale 1,000 mL/min
abbrev pub channel_with : ℕ → ℕ → ℕ → Bool → ℕ → Record
channel_with number polling assembly open? setpoint = record {
  fields = record {
    device_type = 70;
    identification = number;
    polling_address = polling;
    preambles = 2;
    assembly_number = assembly;
    changed = false;
    key_open = open?;
    setpoint = setpoint;
    ceiling = 100;
    flow_unit = 0;
    full_scale = 1000;
  };
  reading = record { flow = value_of 0; temperature = value_of 0 };
  text = replicate 45 0;
}

-- identification number 1, polling address 1, assembly number 7, key shut, setpoint 0
abbrev pub sample : Record
sample = channel_with 1 1 7 false 0

-- a record file of that channel alone, its ceiling 0
abbrev pub sample_file : List ℕ
sample_file =
    0x46 ∷ 0 ∷ 0 ∷ 1 ∷ 1 ∷ 2 ∷ 0 ∷ 0 ∷ 7 ∷ 0 ∷ 0 ∷ 0 ∷ 0 ∷ 0 ∷ 0 ∷ 0 ∷ 0 ∷ 0 ∷ 0x03 ∷ 0xe8 ∷ replicate 60 0

-- the patterns of 100 and of 50 percent
abbrev pub full : ℕ
full = 0x42c8_0000

abbrev pub half : ℕ
half = 0x4248_0000

-- Two channels with open keys, the second with this setpoint: the first, at polling address 1, has 100 percent, the
-- second is at polling address 2.
abbrev pub pair : ℕ → List Record
pair setpoint = channel_with 1 1 7 true full ∷ channel_with 2 2 8 true setpoint ∷ []

-- a setpoint of 50 percent for the channel at polling address 2, and the pattern just above
abbrev pub write_half : List ℕ
write_half = 0xff ∷ 0xff ∷ 0x02 ∷ 0x82 ∷ 0xec ∷ 0x05 ∷ 0x39 ∷ 0x42 ∷ 0x48 ∷ 0 ∷ 0 ∷ 0x5a ∷ []

abbrev pub write_above_half : List ℕ
write_above_half = 0xff ∷ 0xff ∷ 0x02 ∷ 0x82 ∷ 0xec ∷ 0x05 ∷ 0x39 ∷ 0x42 ∷ 0x48 ∷ 0 ∷ 1 ∷ 0x5b ∷ []

-- the question for the final assembly number, at polling address 1; the same with a wrong check
abbrev pub assembly_question : List ℕ
assembly_question = 0xff ∷ 0xff ∷ 0x02 ∷ 0x81 ∷ 0x10 ∷ 0 ∷ 0x93 ∷ []

abbrev pub wrong_check : List ℕ
wrong_check = 0xff ∷ 0xff ∷ 0x02 ∷ 0x81 ∷ 0x10 ∷ 0 ∷ 0x92 ∷ []

-- the recording of these bytes as characters without marks, and of a gap
abbrev pub recorded : List ℕ → List ℕ
recorded [] = 2 ∷ replicate 11 0
recorded (b ∷ bytes) = 1 ∷ b ∷ replicate 10 0 ++ recorded bytes

abbrev tag : List ℕ
tag = 0x34 ∷ 0x60 ∷ 0xed ∷ 0xc7 ∷ 0x2c ∷ 0xf4 ∷ []

abbrev pub rows : List Row
rows =
    packs (codes "MFC-1234") tag
    -- the question for that tag, to every channel, from the primary master
    ∷ sends (asked 5 (0x80 ∷ 0 ∷ 0 ∷ 0 ∷ 0 ∷ []) 11 tag)
    (0xff ∷ 0xff ∷ 0xff ∷ 0xff ∷ 0xff ∷ 0x82 ∷ 0x80 ∷ 0 ∷ 0 ∷ 0 ∷ 0 ∷ 0x0b
    ∷ 0x06 ∷ 0x34 ∷ 0x60 ∷ 0xed ∷ 0xc7 ∷ 0x2c ∷ 0xf4 ∷ 0xa9 ∷ [])
    -- the question for the final assembly number, at polling address 1
    ∷ sends (asked 2 (0x81 ∷ []) 16 []) assembly_question
    -- the question for the unique identifier, at device type 70, identification number 1
    ∷ sends (asked 2 (0x8a ∷ 0x46 ∷ 0 ∷ 0 ∷ 1 ∷ []) 0 [])
    (0xff ∷ 0xff ∷ 0x82 ∷ 0x8a ∷ 0x46 ∷ 0 ∷ 0 ∷ 1 ∷ 0 ∷ 0 ∷ 0x4f ∷ [])
    -- loads: 25 percent, a tenth of a percent, the least percentage above 0, 100 percent
    ∷ weighs 0x41c8_0000 25600
    ∷ weighs 0x3dcc_cccd 103
    ∷ weighs 0x0000_0001 1
    ∷ weighs full 102400
    -- the pattern just above 100 percent
    ∷ refuses 0x42c8_0001 100 3
    -- the final assembly number; damage to the check; neither changes the channel
    ∷ answers largest_supply (sample ∷ []) assembly_question
    0 (0xff ∷ 0xff ∷ 0x06 ∷ 0x81 ∷ 0x10 ∷ 0x05 ∷ 0 ∷ 0 ∷ 0 ∷ 0 ∷ 0x07 ∷ 0x95 ∷ []) (sample ∷ [])
    ∷ answers largest_supply (sample ∷ []) wrong_check
    0 (0xff ∷ 0xff ∷ 0x06 ∷ 0x81 ∷ 0x10 ∷ 0x02 ∷ 0x88 ∷ 0 ∷ 0x1d ∷ []) (sample ∷ [])
    -- the same by what linerun prints
    ∷ prints sample_file (recorded assembly_question) (codes "0 FFFF06811005000000000795")
    ∷ prints sample_file (recorded wrong_check) (codes "0 FFFF0681100288001D")
    -- the unique identifier, asked by the long address
    ∷ answers largest_supply (sample ∷ []) (0xff ∷ 0xff ∷ 0x82 ∷ 0x8a ∷ 0x46 ∷ 0 ∷ 0 ∷ 1 ∷ 0 ∷ 0 ∷ 0x4f ∷ [])
    0 (0xff ∷ 0xff ∷ 0x86 ∷ 0x8a ∷ 0x46 ∷ 0 ∷ 0 ∷ 1 ∷ 0 ∷ 0x0e ∷ 0 ∷ 0
    ∷ 0xfe ∷ 0x0a ∷ 0x46 ∷ 0x02 ∷ 0x05 ∷ 0x01 ∷ 0x01 ∷ 0x08 ∷ 0 ∷ 0 ∷ 0 ∷ 1 ∷ 0xf9 ∷ [])
    (sample ∷ [])
    -- two channels at polling address 1: a short request meets silence
    ∷ silences largest_supply (sample ∷ channel_with 2 1 8 false 0 ∷ []) assembly_question
    -- a supply of 1,500 mL/min, of which the first channel has 1,000: 500 are granted to the second and held after,
    -- and no more
    ∷ answers 1500 (pair 0) write_half
    1 (0xff ∷ 0xff ∷ 0x06 ∷ 0x82 ∷ 0xec ∷ 0x0c ∷ 0 ∷ 0
    ∷ 0x39 ∷ 0x42 ∷ 0x48 ∷ 0 ∷ 0 ∷ 0 ∷ 0x43 ∷ 0xfa ∷ 0 ∷ 0 ∷ 0xee ∷ []) (pair half)
    ∷ answers 1500 (pair 0) write_above_half 1 (0xff ∷ 0xff ∷ 0x06 ∷ 0x82 ∷ 0xec ∷ 0x02 ∷ 0x10 ∷ 0 ∷ 0x7a ∷ []) (pair 0)
    ∷ []

-- every row holds
abbrev pub Edges : Type 0
Edges = AllByRecursion RowHolds rows
