-- Body 5, both ways: what it tells of the record that wrote it, and that it is what its record writes. An empty one, as version 1 has
-- it, tells that nothing is held.
-- Assumes nothing.
use Prim.Native.Nat.{ℕ}
use mathlib.Core.Path.{◌≡◌, ap₂, ◌∙◌}
use mathlib.Core.Bool.{true}
use mathlib.Core.List.{List, [], ◌∷◌}
use lib.Dec.{ltb}
use lib.ListN.{length}
use Rattle.rules.specs.declared.Transfer.{Transfer}
use Rattle.rules.specs.declared.Device.{Device}
use Rattle.rules.specs.With.{with_transfers}
use Rattle.rules.specs.Record.{vacant, transfer_at}
use Rattle.bodies.specs.Written.{transfers_body}
use Rattle.bodies.specs.Taken.{byte_at, Bytes, transfer_in, transfers_in, transfers_clear}
use Rattle.basics.proofs.Tests.{both}
use Rattle.bodies.proofs.Lists.{elements}
use Rattle.bodies.proofs.Bytes.{flag-0, flag-1, flag-clear, flag-made}

-- a body that tells what the ports of d hold
abbrev pub Tells : List ℕ → Device → Type 0
Tells b d = (transfer_in b 0 ≡ transfer_at d 0) × (transfer_in b 1 ≡ transfer_at d 1)

pub transfers-tell : (d : Device) → Tells (transfers_body d) d
unfolding transfer_in transfers_body
transfers-tell d = (simp (flag-0, flag-1), simp (flag-0, flag-1))

pub nothing-told : (d : Device) → d.transfers ≡ vacant ∷ vacant ∷ [] → Tells [] d
unfolding transfer_in
nothing-told d e = (simp e, simp e)

-- a record e with what body 5 tells of d
abbrev pub transfers_told : Device → Device → Device
transfers_told e d = with_transfers e (transfer_at d 0 ∷ transfer_at d 1 ∷ [])

pub transfers-read : (b : List ℕ) (e d : Device) → Tells b d → transfers_in e b ≡ transfers_told e d
unfolding transfers_in
transfers-read b e d t = ap₂ (λ (x y : Transfer). with_transfers e (x ∷ y ∷ [])) t.0 t.1

pub transfers-clear : (d : Device) → transfers_clear (transfers_body d) ≡ true
unfolding transfers_body
transfers-clear d = simp flag-clear

pub transfers-written : (d : Device) (b : List ℕ) → length b ≡ 8 → Bytes b → transfers_clear b ≡ true → transfers_body (transfers_in d b) ≡ b
unfolding transfer_in transfers_in transfers_body
transfers-written d b n h c =
    let k = both (ltb (byte_at b 3) 4) (ltb (byte_at b 7) 4) c in
    (simp (flag-made (byte_at b 3) (h 3) k.0, flag-made (byte_at b 7) (h 7) k.1)) ∙ elements b 8 n
