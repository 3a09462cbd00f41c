-- Two answers that satisfy one promise are equal: stated once, over promises that are equations.
-- Assumes nothing.
use mathlib.Core.Path.{◌≡◌, sym, ap, subst, ◌∙◌}
use seplogic.Ra.Ura.{Ura}
use base.Logic.{SProp, ent, sep, via, fst∗, snd∗, id⊢}
use prog.Memory.{Memory}
use prog.Routine.{Routine}
use types.Logic.{Logic}
use contract.Lifetimes.{Lfts}
use contract.Monad.{Fun, conj, conj_l, conj_r, fact, fact_i, fact_use}
use denote.Triple.Entry.{Args, Res}
use denote.Triple.Clauses.{Ended, Clauses, AtExit}

-- the contract of a call, as the check makes it of the `requires` and the `ensures` in the source
abbrev pub Promise : {M : Type 1} (𝓤 : Ura M) → Ended → Type 2
Promise 𝓤 T = (𝓛 : Logic 𝓤) → (Memory → SProp 𝓤) → (Routine → Fun 𝓤) → Clauses 𝓤 T

module _ {M : Type 1} (𝓤 : Ura M) (T : Ended) (promise : Promise 𝓤 T) where
  abbrev Lifetimes : Type 0
  Lifetimes = Lfts T.signature.lifetimes

  abbrev Inputs : Lifetimes → Type 0
  Inputs = Args T.signature

  abbrev Result : Lifetimes → Type 0
  Result = Res T.signature

  -- what is said of the inputs a, the result r and what the lent places hold at exit, x
  abbrev Says : Type 2
  Says =
      (𝓛 : Logic 𝓤) (at_mem : Memory → SProp 𝓤) (run : Routine → Fun 𝓤) (κs : Lifetimes) (a : Inputs κs) → (promise 𝓛 at_mem run κs a).ghost → Result κs → AtExit T κs → SProp 𝓤

  abbrev promised : Says
  promised 𝓛 at_mem run κs a = (promise 𝓛 at_mem run κs a).ensures

  module _ (E : Lifetimes → Type 0) (seen : (κs : Lifetimes) → Result κs → AtExit T κs → E κs) where
    -- Whatever two answers satisfy the promise for the same inputs, a host sees the same.
    abbrev pub OneAnswer : Type 2
    OneAnswer =
        (𝓛 : Logic 𝓤) (at_mem : Memory → SProp 𝓤) (run : Routine → Fun 𝓤) (κs : Lifetimes) (a : Inputs κs) (g : (promise 𝓛 at_mem run κs a).ghost) (r s : Result κs) (x y : AtExit T κs)
        → ent 𝓤 (conj 𝓤 (promised 𝓛 at_mem run κs a g r x) (promised 𝓛 at_mem run κs a g s y)) (fact 𝓤 (seen κs r x ≡ seen κs s y))

    -- It is enough that the promise is an equation: that it says what is seen, v, of the inputs alone.
    pub one_answer : (v : (κs : Lifetimes) → Inputs κs → E κs)
        → ((𝓛 : Logic 𝓤) (at_mem : Memory → SProp 𝓤) (run : Routine → Fun 𝓤) (κs : Lifetimes) (a : Inputs κs) (g : (promise 𝓛 at_mem run κs a).ghost) (r : Result κs) (x : AtExit T κs)
        → ent 𝓤 (promised 𝓛 at_mem run κs a g r x) (fact 𝓤 (seen κs r x ≡ v κs a))) → OneAnswer
    one_answer v is 𝓛 at_mem run κs a g r s x y =
        let P = promised 𝓛 at_mem run κs a g in
        fact_use 𝓤 (seen κs r x ≡ v κs a) (via 𝓤 (P r x) (conj_l 𝓤 (P r x) (P s y)) (is 𝓛 at_mem run κs a g r x)) (λ p.
        fact_use 𝓤 (seen κs s y ≡ v κs a) (via 𝓤 (P s y) (conj_r 𝓤 (P r x) (P s y)) (is 𝓛 at_mem run κs a g s y)) (λ q. fact_i 𝓤 (seen κs r x ≡ seen κs s y) _ (p ∙ sym q)))

  -- Of a call by value a host sees the result.
  abbrev pub OneResult : Type 2
  OneResult = OneAnswer Result (λ κs r x. r)

  pub one-result : (v : (κs : Lifetimes) → Inputs κs → Result κs) → promised ≡ (λ 𝓛 at_mem run κs a g r x. fact 𝓤 (r ≡ v κs a)) → OneResult
  one-result v is =
      one_answer Result (λ κs r x. r) v (λ 𝓛 at_mem run κs a g r x.
      subst (λ (P : SProp 𝓤). ent 𝓤 P (fact 𝓤 (r ≡ v κs a))) (sym (ap (λ (P : Says). P 𝓛 at_mem run κs a g r x) is)) (id⊢ 𝓤 (fact 𝓤 (r ≡ v κs a))))

-- A promise of three clauses, of which the first two are the equations.
pub two-clauses : {M : Type 1} (𝓤 : Ura M) (φ ψ θ χ : Type 0) → (φ → ψ → χ) → ent 𝓤 (sep 𝓤 (fact 𝓤 φ) (sep 𝓤 (fact 𝓤 ψ) (fact 𝓤 θ))) (fact 𝓤 χ)
two-clauses 𝓤 φ ψ θ χ f =
    let P = sep 𝓤 (fact 𝓤 ψ) (fact 𝓤 θ) in
    fact_use 𝓤 φ (fst∗ 𝓤 (fact 𝓤 φ) P) (λ p. fact_use 𝓤 ψ (via 𝓤 P (snd∗ 𝓤 (fact 𝓤 φ) P) (fst∗ 𝓤 (fact 𝓤 ψ) (fact 𝓤 θ))) (λ q. fact_i 𝓤 χ _ (f p q)))
