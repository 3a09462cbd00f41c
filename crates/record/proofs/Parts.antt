-- What the derived `==` says of two devices and their parts, in the words of `rules/Sound`.
-- Assumes nothing.
use Rattle.std.specs.Cmp.Lexicographic.{pointwise}
use mathlib.Core.Path.{◌≡◌, ap₂, ◌∙◌}
use mathlib.Core.Bool.{Bool, ◌&&◌, beq, and-true}
use mathlib.Core.List.{List}
use lib.Dec.{eqb}
use lib.ListN.{length, get_or}
use Rattle.std.proofs.Math.Bool.{and_assoc}
use Rattle.basics.proofs.Lists.{two, three, five}
use Rattle.rules.specs.declared.Device.{Device}
use Rattle.rules.specs.declared.Source.{Source}
use Rattle.rules.specs.declared.Counter.{Counter}
use Rattle.rules.specs.declared.Port.{Port}
use Rattle.rules.specs.declared.Pattern.{Pattern}
use Rattle.rules.specs.declared.Transfer.{Transfer}
use Rattle.rules.specs.Record.{Shaped, bare, blank, vacant, idle, quiet}
use Rattle.rules.specs.Sound.{same_source, same_counter, same_port, same_pattern, same_transfer, same_sources, same_counters, same_ports, same_patterns, same_transfers, same_vectors}

-- ---- an array, place by place
module _ {A : Type 0} (same : A → A → Bool) (x : A) (l m : List A) where
  same-two : length l ≡ 2 → length m ≡ 2 → pointwise same l m ≡ (same (get_or l 0 x) (get_or m 0 x) && same (get_or l 1 x) (get_or m 1 x))
  same-two h g = ap₂ (pointwise same) (two x l h) (two x m g) ∙ simp and-true

  same-three : length l ≡ 3 → length m ≡ 3
      → pointwise same l m ≡ (same (get_or l 0 x) (get_or m 0 x) && same (get_or l 1 x) (get_or m 1 x) && same (get_or l 2 x) (get_or m 2 x))
  same-three h g = ap₂ (pointwise same) (three x l h) (three x m g) ∙ simp (and-true, and_assoc)

  same-five : length l ≡ 5 → length m ≡ 5
      → pointwise same l m
      ≡ (same (get_or l 0 x) (get_or m 0 x) && same (get_or l 1 x) (get_or m 1 x) && same (get_or l 2 x) (get_or m 2 x)
      && same (get_or l 3 x) (get_or m 3 x) && same (get_or l 4 x) (get_or m 4 x))
  same-five h g = ap₂ (pointwise same) (five x l h) (five x m g) ∙ simp (and-true, and_assoc)

-- ---- a part, field by field
unfoldable pub source_eq : Source → Source → Bool
source_eq s t = beq s.ius t.ius && (beq s.ie t.ie && (beq s.ip t.ip && (beq s.err t.err && beq s.hidden t.hidden)))

source-eq : (s t : Source) → source_eq s t ≡ same_source s t
unfolding source_eq same_source
source-eq s t = simp and_assoc

unfoldable pub counter_eq : Counter → Counter → Bool
counter_eq s t =
    eqb s.mode t.mode && (eqb s.constant t.constant && (eqb s.count t.count && (eqb s.frozen t.frozen && (beq s.rcc t.rcc && (beq s.gcb t.gcb
    && (beq s.cip t.cip && (beq s.half t.half && beq s.pulse t.pulse)))))))

counter-eq : (s t : Counter) → counter_eq s t ≡ same_counter s t
unfolding counter_eq same_counter
counter-eq s t = simp and_assoc

unfoldable pub port_eq : Port → Port → Bool
port_eq s t = eqb s.polarity t.polarity && (eqb s.direction t.direction && (eqb s.special t.special && (eqb s.output t.output && (eqb s.outside t.outside && eqb s.catcher t.catcher))))

port-eq : (s t : Port) → port_eq s t ≡ same_port s t
unfolding port_eq same_port
port-eq s t = simp and_assoc

unfoldable pub pattern_eq : Pattern → Pattern → Bool
pattern_eq s t = eqb s.mode t.mode && (eqb s.handshake t.handshake && (eqb s.polarity t.polarity && (eqb s.transition t.transition && (eqb s.mask t.mask && (beq s.ioe t.ioe && beq s.pmf t.pmf)))))

pattern-eq : (s t : Pattern) → pattern_eq s t ≡ same_pattern s t
unfolding pattern_eq same_pattern
pattern-eq s t = simp and_assoc

unfoldable pub transfer_eq : Transfer → Transfer → Bool
transfer_eq s t = eqb s.front t.front && (eqb s.behind t.behind && (eqb s.bytes t.bytes && (beq s.unfinished t.unfinished && beq s.pair t.pair)))

pub transfer-eq : (s t : Transfer) → transfer_eq s t ≡ same_transfer s t
unfolding transfer_eq same_transfer
transfer-eq s t = simp and_assoc

-- ---- a device, part by part
module _ (d e : Device) (f : Shaped d) (g : Shaped e) where
  pub vectors-eq : pointwise eqb d.vectors e.vectors ≡ same_vectors d e
  unfolding same_vectors
  vectors-eq = same-three eqb 0 d.vectors e.vectors f.vectors g.vectors

  pub sources-eq : pointwise source_eq d.sources e.sources ≡ same_sources d e
  unfolding same_sources
  sources-eq = same-five source_eq quiet d.sources e.sources f.sources g.sources ∙ simp source-eq

  pub counters-eq : pointwise counter_eq d.counters e.counters ≡ same_counters d e
  unfolding same_counters
  counters-eq = same-three counter_eq idle d.counters e.counters f.counters g.counters ∙ simp counter-eq

  pub ports-eq : pointwise port_eq d.ports e.ports ≡ same_ports d e
  unfolding same_ports
  ports-eq = same-three port_eq (bare 0) d.ports e.ports f.ports g.ports ∙ simp port-eq

  pub patterns-eq : pointwise pattern_eq d.patterns e.patterns ≡ same_patterns d e
  unfolding same_patterns
  patterns-eq = same-two pattern_eq blank d.patterns e.patterns f.patterns g.patterns ∙ simp pattern-eq

  pub transfers-eq : pointwise transfer_eq d.transfers e.transfers ≡ same_transfers d e
  unfolding same_transfers
  transfers-eq = same-two transfer_eq vacant d.transfers e.transfers f.transfers g.transfers ∙ simp transfer-eq
