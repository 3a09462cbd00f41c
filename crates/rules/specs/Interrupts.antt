-- Paper 01, "Interrupts". Sources are known by their place in the order: 0 CT3, 1 A, 2 CT2, 3 B, 4 CT1.
-- Assumes nothing.
use Rattle.std.specs.Prelude.{ℕ, zero, suc, ◌+◌, ◌*◌, ◌/◌, ◌%◌, Bool, true, false, not, ◌&&◌, ◌||◌, if◌then◌else◌, ◌==◌}
use Rattle.rules.specs.declared.Lines.{Lines}
use Rattle.rules.specs.declared.Device.{Device}
use Rattle.rules.specs.declared.Source.{Source}
use Rattle.rules.specs.declared.Fate.{Fate}
use Rattle.rules.specs.declared.Fate.TheVariants.{Nothing, Taken, Kept, Lost}
use Rattle.basics.specs.Byte.{num}
use Rattle.rules.specs.With.{with_ius, with_ip, with_hidden, with_source, with_lines}
use Rattle.rules.specs.Record.{vector_at, pattern_at, source_at, of_port}
use Rattle.rules.specs.Handshakes.{irf_at, ore_at}
use Rattle.rules.specs.Registers.{mie, dlc, nv, vis, port_enabled}
use Rattle.rules.specs.PortData.{seen_at}
use Rattle.rules.specs.Patterns.{is_priority, highest_match}

-- "An event (terminal or match) with IP = 0 sets IP. With IP = 1 and ERR = 0 it sets a hidden error (ports: only if IOE)."
-- Paper 02, W-202: so a terminal "was taken, kept as the hidden error, or lost": lost where it "came while the hidden error
-- or ERR was already set".
unfoldable pub fate_of : Bool → Bool → Source → Fate
fate_of hides happens s =
    if not happens then Nothing else
    if not s.ip then Taken else
    if hides && not s.err && not s.hidden then Kept else
    Lost

-- the record after it, of the source k
unfoldable pub after_fate : Device → ℕ → Fate → Device
after_fate d k Nothing = d
after_fate d k Taken = with_source d k (with_ip (source_at d k) true)
after_fate d k Kept = with_source d k (with_hidden (source_at d k) true)
after_fate d k Lost = d

-- whether the event came, and whether it was lost
unfoldable pub came : Fate → Bool
came Nothing = false
came Taken = true
came Kept = true
came Lost = true

unfoldable pub was_lost : Fate → Bool
was_lost Nothing = false
was_lost Taken = false
was_lost Kept = false
was_lost Lost = true

-- the first of five tests that passes, counted from 0; 5 if none
unfoldable pub first_of : Bool → Bool → Bool → Bool → Bool → ℕ
first_of a b c d e = if a then 0 else if b then 1 else if c then 2 else if d then 3 else if e then 4 else 5

-- the first of the five places at which f holds; 5 if none
unfoldable pub first : (ℕ → Bool) → ℕ
first f = first_of (f 0) (f 1) (f 2) (f 3) (f 4)

-- "source of equal or higher priority has IUS"
unfoldable pub served : Device → ℕ → Bool
served d zero = (source_at d 0).ius
served d (suc k) = (source_at d (suc k)).ius || served d k

-- its "IE and IP are 1"
unfoldable pub pending : Device → ℕ → Bool
pending d k = (source_at d k).ie && (source_at d k).ip

-- "A source requests when MIE, IEI, its IE and IP are 1 and no source of equal or higher priority has IUS."
unfoldable pub requests : Device → ℕ → Bool
requests d k = mie d && d.iei && pending d k && not (served d k)

-- the highest requester; 5 if none
unfoldable pub requester : Device → ℕ
requester d = first (requests d)

-- "INT: some source requests."
unfoldable pub int_of : Device → Bool
int_of d = not (requester d == 5)

-- "IEO = IEI, no IUS anywhere, DLC = 0."
unfoldable pub ieo_of : Device → Bool
ieo_of d = d.iei && not (served d 4) && not (dlc d)

-- ---- paper 02, W-208: "Store both in the device, with the highest requester's place in order (1 to 5, 0 if none)"
unfoldable pub place_of : Device → ℕ
place_of d = if requester d == 5 then 0 else 1 + requester d

-- the lines, worked out; and the record with them
unfoldable pub lines_of : Device → Lines
lines_of d = record { int = int_of d; ieo = ieo_of d; place = place_of d }

unfoldable pub relined : Device → Device
relined d = with_lines d (lines_of d)

-- ---- vectors
-- the vector register of the source k: 0 A, 1 B, 2 CT
unfoldable pub vector_of : ℕ → ℕ
vector_of k = if k == of_port 0 then 0 else if k == of_port 1 then 1 else 2

-- "counters put 00 CT3, 01 CT2, 10 CT1, 11 for ERR in D2-D1"
unfoldable pub counter_status : ℕ → ℕ → Bool → ℕ
counter_status base n err = base / 8 * 8 + 2 * (if err then 3 else n % 4) + base % 2

-- "ports put 0, 0, PMF in D3-D1, or 000 with ERR"; paper 02, W-203: "IRF is D2 .. of the vector status"; W-206:
-- "ORE is D3 as IRF is D2."
unfoldable pub port_status : ℕ → Bool → Bool → Bool → Bool → ℕ
port_status base ore irf pmf err =
    base / 16 * 16 + 8 * num (ore && not err) + 4 * num (irf && not err) + 2 * num (pmf && not err) + base % 2

-- paper 02, W-211: "the port's status in D3-D1 is the number of the highest matching bit, 0 if none, ERR or not"
unfoldable pub priority_status : ℕ → ℕ → ℕ
priority_status base n = base / 16 * 16 + 2 * n + base % 2

-- the number of port p's highest matching bit
unfoldable pub highest_at : Device → ℕ → ℕ
highest_at d p = highest_match (port_enabled d p) (pattern_at d p) (seen_at d p)

-- the vector of port p with status
unfoldable pub port_vector : Device → ℕ → ℕ → Bool → ℕ
port_vector d p base err =
    if is_priority (pattern_at d p) then priority_status base (highest_at d p) else port_status base (ore_at d p) (irf_at d p) (pattern_at d p).pmf err

-- "With VIS" is with status: the vector of source k with it
unfoldable pub with_status : Device → ℕ → ℕ
with_status d k =
    if k % 2 == 1 then port_vector d (k / 2) (vector_at d (vector_of k)) (source_at d k).err else
    counter_status (vector_at d (vector_of k)) (k / 2) (source_at d k).err

-- the vector of source k, with status if its VIS says so
unfoldable pub vector_for : Device → ℕ → ℕ
vector_for d k = if vis d (vector_of k) then with_status d k else vector_at d (vector_of k)

-- "K sets IUS of the highest requester, keeps IP, and gives its vector (0 if NV)."; nothing where none requests
unfoldable pub acknowledged : Device → Device
acknowledged d = with_source d (requester d) (with_ius (source_at d (requester d)) true)

unfoldable pub acknowledge : Device → ℕ
acknowledge d = if nv d || requester d == 5 then 0 else vector_for d (requester d)

-- "the counters by the highest with IP and IE, base if none"
unfoldable pub pending_counter : Device → ℕ
pending_counter d = first_of (pending d 0) false (pending d 2) false (pending d 4)

-- "Reading 02-04: base if MIE = 0; else always with status, the counters by the highest with IP and IE, base if none."
unfoldable pub vector_read : Device → ℕ → ℕ
vector_read d v =
    if not (mie d) then vector_at d v else
    if v == 0 then with_status d (of_port 0) else
    if v == 1 then with_status d (of_port 1) else
    if pending_counter d == 5 then vector_at d v else
    with_status d (pending_counter d)

-- "1FH: what K would give for the highest IP and IE, passing over IUS, IEI and NV; FFH if none or MIE = 0."
unfoldable pub current_vector : Device → ℕ
current_vector d =
    if not (mie d) then 0xFF else
    if first (pending d) == 5 then 0xFF else
    vector_for d (first (pending d))
