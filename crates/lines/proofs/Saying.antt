-- What a text keeps of a line of any length is the whole of what the line says.
-- Assumes nothing.
use Prim.Native.Nat.{ℕ}
use mathlib.Core.List.{List}
use mathlib.Core.Logic.{inl, inr}
use mathlib.Core.Path.{◌≡◌, sym, ap, ◌∙◌}
use native.Mathlib.Omega.{arith}
use borrow.Author.Tests.{lt-ltb}
use lib.ListN.{length}
use Rattle.texts.specs.Kept.{no_text, typed}
use Rattle.texts.specs.declared.Text.{Text}
use Rattle.texts.proofs.Keeping.{Keeps, keeps, holds-bytes, passes-bytes}
use Rattle.lines.specs.Lines.{words_of, line_most, line_of, says_of}

pub says-kept : (t : Text) (w : List ℕ) → Keeps t w → says_of t ≡ line_of w
unfolding says_of line_of words_of
says-kept t w (inl h) = ap line_of (holds-bytes t w h)
says-kept t w (inr p) =
    let g = p.past in ap line_of (passes-bytes t w p) ∙ sym (simp (lt-ltb line_most (length w) (omega arith)))

pub says-line : (w : List ℕ) → says_of (typed no_text w) ≡ line_of w
says-line w = says-kept (typed no_text w) w (keeps w)
