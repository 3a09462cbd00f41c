-- `lay` meets its contract: one copy puts the bytes where they belong.
-- Assumes nothing.
use Prim.Native.Nat.{◌+◌, ◌-◌}
use lib.ListN.{length}
use native.Mathlib.Omega.{arith}
use Rattle.std.proofs.lemmas.Slice.{put_mid-paste}
use Rattle.basics.proofs.Laying.{not-laid, is-laid}
use Rattle.basics.proofs.lay.Goals as goal

pub returns-then-buf-n : goal.returns-then-buf-n
returns-then-buf-n c =
    let a = c.args in not-laid a.buf.now a.at a.src.now (omega arith)

pub returns-then-buf-n-2 : goal.returns-then-buf-n-2
returns-then-buf-n-2 c =
    let a = c.args in not-laid a.buf.now a.at a.src.now (omega arith)

pub returns : goal.returns
returns c =
    let a = c.args in
    let n = length a.src.now in
    is-laid a.buf.now a.at a.src.now _ (omega arith)
    (put_mid-paste a.at (a.at + n - a.at) a.buf.now _ a.src.now n c.copy_from_slice.ensures.after (omega arith) (omega arith))
