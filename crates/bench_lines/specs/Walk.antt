-- A line of BOARD walked byte by byte, beside the texts of an answer: of the code, and not of the issue.
-- Assumes nothing.
use Prim.Native.Char.{code}
use Rattle.std.specs.Prelude.{ℕ, ◌+◌, ◌<◌, Bool, true, List, [], ◌∷◌, ◌++◌, ◌⊎◌, ◌≡◌, length, drop, get_or, if◌then◌else◌}
use Rattle.rules.specs.declared.Answer.{Answer}
use Rattle.texts.specs.Answers.{space, line_feed, glyph_of, decimal_text}
use Rattle.bench_lines.specs.Fields.{hole}
use Rattle.bench_lines.specs.Agreed.{agreed_to}

-- 0 or 1
abbrev pub bit_byte : Bool → ℕ
bit_byte f = if f then code "1" else code "0"

-- a field is the answer's text, or `-`
abbrev pub Meets : List ℕ → List ℕ → Type 0
Meets text f = (f ≡ text) ⊎ (f ≡ hole)

-- the bytes of a line after a field: no more, or a space and fields that meet the texts, where some may be missing at the end
pub data After : List (List ℕ) → List ℕ → Type 0 where
  over : {ts : List (List ℕ)} → After ts []
  next : {t f w : List ℕ} {ts : List (List ℕ)} → Meets t f → After ts w → After (t ∷ ts) (space ∷ (f ++ w))

-- the bytes of a line that has a first field
pub data Begins : List (List ℕ) → List ℕ → Type 0 where
  field : {t f w : List ℕ} {ts : List (List ℕ)} → Meets t f → After ts w → Begins (t ∷ ts) (f ++ w)

-- from a place of a buffer on there are bytes of which P holds, and then a line feed, at the place e
pub record Up (P : List ℕ → Type 0) (b : List ℕ) (at e : ℕ) : Type 0 where
  pub bytes : List ℕ
  pub left : List ℕ
  pub are : drop at b ≡ bytes ++ (line_feed ∷ left)
  pub end : at + length bytes ≡ e
  pub holds : P bytes

-- a walk from a place to another met these texts: what the line is from there on, it is with them from here on
abbrev pub Met : List (List ℕ) → List ℕ → ℕ → ℕ → Type 0
Met ts b at r = (us : List (List ℕ)) (e : ℕ) → Up (After us) b r e → Up (After (ts ++ us)) b at e

-- the same from the place where the line begins
abbrev pub MetFirst : List (List ℕ) → List ℕ → ℕ → ℕ → Type 0
MetFirst ts b at r = (us : List (List ℕ)) (e : ℕ) → Up (After us) b r e → Up (Begins (ts ++ us)) b at e

-- where a test passes
abbrev pub MeetsIf : Bool → List ℕ → List ℕ → Type 0
MeetsIf r text f = r ≡ true → Meets text f

abbrev pub MetIf : Bool → List (List ℕ) → List ℕ → ℕ → ℕ → Type 0
MetIf r ts b at e = r ≡ true → Met ts b at e

-- a walk that ended at a place met some of these texts: if the line ends there, the others are missing
abbrev pub Ended : List (List ℕ) → List ℕ → ℕ → ℕ → Type 0
Ended ts b at r = r < length b → get_or b r 0 ≡ line_feed → Up (After ts) b at r

-- the texts of the terminals and of the lost
abbrev pub counts_of : List ℕ → List ℕ → List (List ℕ)
counts_of t l =
    decimal_text (get_or t 0 0) ∷ decimal_text (get_or t 1 0) ∷ decimal_text (get_or t 2 0)
    ∷ decimal_text (get_or l 0 0) ∷ decimal_text (get_or l 1 0) ∷ decimal_text (get_or l 2 0) ∷ []

-- those of an answer from C on
abbrev pub tail_of : Answer → List (List ℕ)
tail_of a = (glyph_of a.c ∷ []) ∷ (bit_byte a.int ∷ []) ∷ (bit_byte a.ieo ∷ []) ∷ counts_of a.report.terminals a.report.lost

-- a line feed at the place where the walk ended says that the line agrees
abbrev pub Agrees : Answer → List ℕ → ℕ → ℕ → Type 0
Agrees a b at r = r < length b → get_or b r 0 ≡ line_feed → r + 1 ≡ agreed_to a b at
