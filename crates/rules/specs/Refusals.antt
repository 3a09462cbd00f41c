-- Paper 01: "Each refusal has one number". What the code calls by a name has here its number.
-- Assumes nothing.
use Rattle.std.specs.Prelude.{ℕ, Result, Ok, Err}
use Rattle.rules.specs.declared.refusal.Refusal.{Refusal}
use Rattle.rules.specs.declared.refusal.Refusal.TheVariants.{Unknown, NoRegister, ReadOnly, Later, TooLarge, NoRequester, Length, Contents, Unsound, NoRoom, NoByte, TooLong, NoDevice}

-- the number of each
unfoldable pub refusal_number : Refusal → ℕ
refusal_number Unknown = 1
refusal_number NoRegister = 2
refusal_number ReadOnly = 3
refusal_number Later = 4
refusal_number TooLarge = 5
refusal_number NoRequester = 6
refusal_number Length = 7
refusal_number Contents = 8
refusal_number Unsound = 9
refusal_number NoRoom = 10
refusal_number NoByte = 11
refusal_number TooLong = 12
refusal_number NoDevice = 13

-- the code of what is refused, and 0 of what is not
unfoldable pub code_in : {A : Type 0} → Result A Refusal → ℕ
code_in (Ok done) = 0
code_in (Err r) = refusal_number r
