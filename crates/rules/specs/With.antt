-- A record with one field replaced: one for each field, and for each part by its place. What changes several fields is a chain
-- of these.
-- Assumes nothing.
use Rattle.std.specs.Prelude.{ℕ, Bool, List, set}
use Rattle.rules.specs.declared.Source.{Source}
use Rattle.rules.specs.declared.Counter.{Counter}
use Rattle.rules.specs.declared.Port.{Port}
use Rattle.rules.specs.declared.Pattern.{Pattern}
use Rattle.rules.specs.declared.Transfer.{Transfer}
use Rattle.rules.specs.declared.Lines.{Lines}
use Rattle.rules.specs.declared.Device.{Device}

-- ---- a source
abbrev pub with_ius : Source → Bool → Source
with_ius s v = record { ius = v; ie = s.ie; ip = s.ip; err = s.err; hidden = s.hidden }

abbrev pub with_ie : Source → Bool → Source
with_ie s v = record { ius = s.ius; ie = v; ip = s.ip; err = s.err; hidden = s.hidden }

abbrev pub with_ip : Source → Bool → Source
with_ip s v = record { ius = s.ius; ie = s.ie; ip = v; err = s.err; hidden = s.hidden }

abbrev pub with_err : Source → Bool → Source
with_err s v = record { ius = s.ius; ie = s.ie; ip = s.ip; err = v; hidden = s.hidden }

abbrev pub with_hidden : Source → Bool → Source
with_hidden s v = record { ius = s.ius; ie = s.ie; ip = s.ip; err = s.err; hidden = v }

-- ---- a counter, of its parts in the struct's order
abbrev counter : ℕ → ℕ → ℕ → ℕ → Bool → Bool → Bool → Bool → Bool → Counter
counter m t n f r g c h p = record { mode = m; constant = t; count = n; frozen = f; rcc = r; gcb = g; cip = c; half = h; pulse = p }

abbrev pub with_mode : Counter → ℕ → Counter
with_mode c v = counter v c.constant c.count c.frozen c.rcc c.gcb c.cip c.half c.pulse

abbrev pub with_constant : Counter → ℕ → Counter
with_constant c v = counter c.mode v c.count c.frozen c.rcc c.gcb c.cip c.half c.pulse

abbrev pub with_count : Counter → ℕ → Counter
with_count c v = counter c.mode c.constant v c.frozen c.rcc c.gcb c.cip c.half c.pulse

abbrev pub with_frozen : Counter → ℕ → Counter
with_frozen c v = counter c.mode c.constant c.count v c.rcc c.gcb c.cip c.half c.pulse

abbrev pub with_rcc : Counter → Bool → Counter
with_rcc c v = counter c.mode c.constant c.count c.frozen v c.gcb c.cip c.half c.pulse

abbrev pub with_gcb : Counter → Bool → Counter
with_gcb c v = counter c.mode c.constant c.count c.frozen c.rcc v c.cip c.half c.pulse

abbrev pub with_cip : Counter → Bool → Counter
with_cip c v = counter c.mode c.constant c.count c.frozen c.rcc c.gcb v c.half c.pulse

abbrev pub with_half : Counter → Bool → Counter
with_half c v = counter c.mode c.constant c.count c.frozen c.rcc c.gcb c.cip v c.pulse

abbrev pub with_pulse : Counter → Bool → Counter
with_pulse c v = counter c.mode c.constant c.count c.frozen c.rcc c.gcb c.cip c.half v

-- ---- a port's data
abbrev port : ℕ → ℕ → ℕ → ℕ → ℕ → ℕ → Port
port p d s v l c = record { polarity = p; direction = d; special = s; output = v; outside = l; catcher = c }

abbrev pub with_polarity : Port → ℕ → Port
with_polarity q v = port v q.direction q.special q.output q.outside q.catcher

abbrev pub with_direction : Port → ℕ → Port
with_direction q v = port q.polarity v q.special q.output q.outside q.catcher

abbrev pub with_special : Port → ℕ → Port
with_special q v = port q.polarity q.direction v q.output q.outside q.catcher

abbrev pub with_output : Port → ℕ → Port
with_output q v = port q.polarity q.direction q.special v q.outside q.catcher

abbrev pub with_outside : Port → ℕ → Port
with_outside q v = port q.polarity q.direction q.special q.output v q.catcher

abbrev pub with_catcher : Port → ℕ → Port
with_catcher q v = port q.polarity q.direction q.special q.output q.outside v

-- ---- a port's mode, handshake and pattern
abbrev pattern : ℕ → ℕ → ℕ → ℕ → ℕ → Bool → Bool → Pattern
pattern m h p t k i f = record { mode = m; handshake = h; polarity = p; transition = t; mask = k; ioe = i; pmf = f }

abbrev pub with_port_mode : Pattern → ℕ → Pattern
with_port_mode q v = pattern v q.handshake q.polarity q.transition q.mask q.ioe q.pmf

abbrev pub with_handshake : Pattern → ℕ → Pattern
with_handshake q v = pattern q.mode v q.polarity q.transition q.mask q.ioe q.pmf

abbrev pub with_pattern_polarity : Pattern → ℕ → Pattern
with_pattern_polarity q v = pattern q.mode q.handshake v q.transition q.mask q.ioe q.pmf

abbrev pub with_transition : Pattern → ℕ → Pattern
with_transition q v = pattern q.mode q.handshake q.polarity v q.mask q.ioe q.pmf

abbrev pub with_mask : Pattern → ℕ → Pattern
with_mask q v = pattern q.mode q.handshake q.polarity q.transition v q.ioe q.pmf

abbrev pub with_ioe : Pattern → Bool → Pattern
with_ioe q v = pattern q.mode q.handshake q.polarity q.transition q.mask v q.pmf

abbrev pub with_pmf : Pattern → Bool → Pattern
with_pmf q v = pattern q.mode q.handshake q.polarity q.transition q.mask q.ioe v

-- ---- what a port with handshake holds
abbrev pub transfer : ℕ → ℕ → ℕ → Bool → Bool → Transfer
transfer f b n u h = record { front = f; behind = b; bytes = n; unfinished = u; pair = h }

abbrev pub with_unfinished : Transfer → Bool → Transfer
with_unfinished t v = transfer t.front t.behind t.bytes v t.pair

abbrev pub with_pair : Transfer → Bool → Transfer
with_pair t v = transfer t.front t.behind t.bytes t.unfinished v

-- ---- the device, of its parts in the struct's order
abbrev pub device : ℕ → ℕ → ℕ → List ℕ → List Port → List Pattern → List Transfer → List Counter → List Source → Bool → Bool → Lines → Device
device n m f vs qs ps ts cs ss i h l =
    record {
      version = n;
      master = m;
      config = f;
      vectors = vs;
      ports = qs;
      patterns = ps;
      transfers = ts;
      counters = cs;
      sources = ss;
      iei = i;
      phase = h;
      lines = l;
    }

abbrev pub with_master : Device → ℕ → Device
with_master d v = device d.version v d.config d.vectors d.ports d.patterns d.transfers d.counters d.sources d.iei d.phase d.lines

abbrev pub with_config : Device → ℕ → Device
with_config d v = device d.version d.master v d.vectors d.ports d.patterns d.transfers d.counters d.sources d.iei d.phase d.lines

abbrev pub with_vectors : Device → List ℕ → Device
with_vectors d v = device d.version d.master d.config v d.ports d.patterns d.transfers d.counters d.sources d.iei d.phase d.lines

abbrev pub with_ports : Device → List Port → Device
with_ports d v = device d.version d.master d.config d.vectors v d.patterns d.transfers d.counters d.sources d.iei d.phase d.lines

abbrev pub with_patterns : Device → List Pattern → Device
with_patterns d v = device d.version d.master d.config d.vectors d.ports v d.transfers d.counters d.sources d.iei d.phase d.lines

abbrev pub with_transfers : Device → List Transfer → Device
with_transfers d v = device d.version d.master d.config d.vectors d.ports d.patterns v d.counters d.sources d.iei d.phase d.lines

-- its counters, its sources, IEI and the clock phase
abbrev pub with_counters : Device → List Counter → Device
with_counters d v = device d.version d.master d.config d.vectors d.ports d.patterns d.transfers v d.sources d.iei d.phase d.lines

abbrev pub with_sources : Device → List Source → Device
with_sources d v = device d.version d.master d.config d.vectors d.ports d.patterns d.transfers d.counters v d.iei d.phase d.lines

abbrev pub with_iei : Device → Bool → Device
with_iei d v = device d.version d.master d.config d.vectors d.ports d.patterns d.transfers d.counters d.sources v d.phase d.lines

abbrev pub with_phase : Device → Bool → Device
with_phase d v = device d.version d.master d.config d.vectors d.ports d.patterns d.transfers d.counters d.sources d.iei v d.lines

-- and the stored lines
abbrev pub with_lines : Device → Lines → Device
with_lines d v = device d.version d.master d.config d.vectors d.ports d.patterns d.transfers d.counters d.sources d.iei d.phase v

-- ---- one part of an array, by its place
abbrev pub with_vector : Device → ℕ → ℕ → Device
with_vector d v b = with_vectors d (set d.vectors v b)

abbrev pub with_port : Device → ℕ → Port → Device
with_port d p q = with_ports d (set d.ports p q)

abbrev pub with_pattern : Device → ℕ → Pattern → Device
with_pattern d p q = with_patterns d (set d.patterns p q)

abbrev pub with_transfer : Device → ℕ → Transfer → Device
with_transfer d p t = with_transfers d (set d.transfers p t)

abbrev pub with_counter : Device → ℕ → Counter → Device
with_counter d i c = with_counters d (set d.counters i c)

abbrev pub with_source : Device → ℕ → Source → Device
with_source d k s = with_sources d (set d.sources k s)
