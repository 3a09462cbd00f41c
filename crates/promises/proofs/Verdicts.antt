-- What a call answers that does its work or says why not is known from its code.
-- Assumes nothing.
use Rattle.std.specs.Prelude.{ℕ, Result, Ok, Err, if◌then◌else◌, ◌==◌}
use mathlib.Core.Path.{◌≡◌, refl, sym, ap, ◌∙◌}
use Rattle.rules.specs.declared.refusal.Refusal.{Refusal}
use Rattle.rules.specs.declared.refusal.Refusal.TheVariants.{Unknown, NoRegister, ReadOnly, Later, TooLarge, NoRequester, Length, Contents, Unsound, NoRoom, NoByte, TooLong, NoDevice}
use Rattle.rules.specs.Refusals.{refusal_number, code_in}

-- the answer with a code
abbrev pub verdict : ℕ → Result Unit Refusal
verdict n =
    if n == 0 then Ok tt else
    if n == 1 then Err Unknown else
    if n == 2 then Err NoRegister else
    if n == 3 then Err ReadOnly else
    if n == 4 then Err Later else
    if n == 5 then Err TooLarge else
    if n == 6 then Err NoRequester else
    if n == 7 then Err Length else
    if n == 8 then Err Contents else
    if n == 9 then Err Unsound else
    if n == 10 then Err NoRoom else
    if n == 11 then Err NoByte else
    if n == 12 then Err TooLong else
    Err NoDevice

of-code : (r : Result Unit Refusal) → verdict (code_in r) ≡ r
unfolding code_in refusal_number
of-code (Ok tt) = refl
of-code (Err Unknown) = refl
of-code (Err NoRegister) = refl
of-code (Err ReadOnly) = refl
of-code (Err Later) = refl
of-code (Err TooLarge) = refl
of-code (Err NoRequester) = refl
of-code (Err Length) = refl
of-code (Err Contents) = refl
of-code (Err Unsound) = refl
of-code (Err NoRoom) = refl
of-code (Err NoByte) = refl
of-code (Err TooLong) = refl
of-code (Err NoDevice) = refl

pub told : (r : Result Unit Refusal) (n : ℕ) → code_in r ≡ n → r ≡ verdict n
told r n e = sym (of-code r) ∙ ap verdict e
