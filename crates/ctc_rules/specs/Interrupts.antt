-- docs/CTC.md, "Interrupts and the end of service". Channels stand in their order: "Channel 0 is the highest."
-- Assumes nothing.
use Rattle.std.specs.Prelude.{ℕ, ◌+◌, ◌*◌, ◌/◌, Bool, true, false, not, ◌&&◌, ltb, if◌then◌else◌, ◌==◌}
use Rattle.rules.specs.declared.Lines.{Lines}
use Rattle.ctc_rules.specs.declared.Ctc.{Ctc}
use Rattle.ctc_rules.specs.Set.{set_ip, set_ius, set_channel}
use Rattle.ctc_rules.specs.Record.{interrupt_on, channel_at}

-- the first of four tests that passes, counted from 0; 4 if none
unfoldable pub first_test : Bool → Bool → Bool → Bool → ℕ
first_test a b c d = if a then 0 else if b then 1 else if c then 2 else if d then 3 else 4

-- the first of the four places at which f holds; 4 if none
unfoldable pub first_four : (ℕ → Bool) → ℕ
first_four f = first_test (f 0) (f 1) (f 2) (f 3)

-- "A channel's request is pending while its IP and D7 are 1."
unfoldable pub pending_at : Ctc → ℕ → Bool
pending_at d i = (channel_at d i).ip && interrupt_on (channel_at d i)

-- the highest channel in service, one that has IUS; 4 if none
unfoldable pub serving_ctc : Ctc → ℕ
serving_ctc d = first_four (λ i. (channel_at d i).ius)

-- "A channel requests if IEI is 1, its request is pending, and no channel at or above it has IUS.": the highest that has it stands below
unfoldable pub requests_at : Ctc → ℕ → Bool
requests_at d i = d.iei && pending_at d i && ltb i (serving_ctc d)

-- the highest requester; 4 if none
unfoldable pub requester_ctc : Ctc → ℕ
requester_ctc d = first_four (requests_at d)

-- "INT: some channel requests."
unfoldable pub int_ctc : Ctc → Bool
int_ctc d = not (requester_ctc d == 4)

-- "IEO: IEI, no request pending, no IUS anywhere."
unfoldable pub ieo_ctc : Ctc → Bool
ieo_ctc d = d.iei && first_four (pending_at d) == 4 && serving_ctc d == 4

-- INT, IEO and "the highest requester's place in order", as W-208 has them of the Z8036: 1 to 4, 0 if none. A CTC does not store them.
unfoldable pub place_ctc : Ctc → ℕ
place_ctc d = if requester_ctc d == 4 then 0 else 1 + requester_ctc d

unfoldable pub lines_ctc : Ctc → Lines
lines_ctc d = record { int = int_ctc d; ieo = ieo_ctc d; place = place_ctc d }

-- "K sets IUS of the highest requester, clears its IP, and gives the vector with the channel's number in D2-D1."; nothing where none requests
unfoldable pub acknowledged_ctc : Ctc → Ctc
acknowledged_ctc d = set_channel d (requester_ctc d) (set_ius (set_ip (channel_at d (requester_ctc d)) false) true)

unfoldable pub vector_ctc : Ctc → ℕ
vector_ctc d = if requester_ctc d == 4 then 0 else d.vector / 8 * 8 + 2 * requester_ctc d

-- "The end of service clears IUS of the highest channel that has it, whatever IEI is; where none has it nothing changes."
unfoldable pub released_ctc : Ctc → Ctc
released_ctc d = set_channel d (serving_ctc d) (set_ius (channel_at d (serving_ctc d)) false)
