-- Lines taken from a piece one after the other, their answers laid one after the other.
-- Assumes nothing.
use Rattle.std.specs.Prelude.{◌==◌}
use Prim.Native.Nat.{ℕ, suc, ◌+◌, ◌≤◌, ◌<◌}
use mathlib.Core.Bool.{Bool, true, false, ◌&&◌, true≢false}
use mathlib.Core.List.{List, [], ◌∷◌, ◌++◌}
use mathlib.Core.Path.{◌≡◌, refl, sym, ap, ap₂, ◌∙◌}
use native.Mathlib.Nat.{add-zero, zero-add, suc-add, add_assoc}
use native.Mathlib.Omega.{arith}
use borrow.Author.Tests.{lt-ltb, le-ltb, le-leb, ltb-false, leb-false}
use lib.Dec.{ltb, leb}
use lib.ListN.{length, take, drop, length-append, length-drop}
use lib.Seq.{paste, take_at, take-length, take-add, drop-drop, drop-append-add, length-take-le}
use Rattle.texts.specs.Answers.{line_feed}
use Rattle.basics.specs.Buffer.{fits, laid_of}
use Rattle.lines.specs.Pieces.{line_len, said_in, kept_after}
use Rattle.texts.specs.Kept.{text_room}
use Rattle.session.specs.Sessions.{answer_bytes, device_after, after_of, answers_in, read_in, bytes_read, fed_by, answered, line_in, line_fed}
use Rattle.session.specs.declared.Fed.{Fed}
use Rattle.session.specs.declared.Session.{Session}
use Rattle.session.proofs.Laws.{after-append, answers-append}
use Rattle.session.proofs.Telling.{line-short, line-some, line-length, answers-short}

-- ---- how many bytes are read
no-feed : (s : Session) (b : ℕ) → b == line_feed ≡ false → answers_in s (b ∷ []) ≡ []
unfolding answers_in answer_bytes said_in
no-feed s b e = simp e

-- a line is read whole where its answer finds room
abbrev Line-read : ℕ → Session → ℕ → List ℕ → Type 0
Line-read room s n m =
    read_in room s n m
    ≡ line_len m + read_in room (after_of s (take (line_len m) m)) (n + length (answers_in s (take (line_len m) m))) (drop (line_len m) m)

pub read-line : (room : ℕ) (s : Session) (n : ℕ) (m : List ℕ) → n + text_room ≤ room → Line-read room s n m
unfolding read_in line_len
read-line room s n [] h = refl
read-line room s n (b ∷ m) h = by-feed (b == line_feed) refl (λ g. read-line room (after_of s (b ∷ [])) (n + length (answers_in s (b ∷ []))) m g)
  where
    by-feed : (f : Bool) → b == line_feed ≡ f
        → (n + length (answers_in s (b ∷ [])) + text_room ≤ room → Line-read room (after_of s (b ∷ [])) (n + length (answers_in s (b ∷ []))) m)
        → Line-read room s n (b ∷ m)
    by-feed true e r = simp (e, le-ltb room (n + text_room) h) (omega arith)
    by-feed false e r =
        let s' = after_of s (b ∷ []) in
        let x = take (line_len m) m in
        let z : length (answers_in s (b ∷ [])) ≡ 0 = ap length (no-feed s b e) in
        let w : length (answers_in s (b ∷ x)) ≡ length (answers_in s (b ∷ [])) + length (answers_in s' x) =
        ap length (answers-append s (b ∷ []) x) ∙ length-append (answers_in s (b ∷ [])) (answers_in s' x) in
        let q =
        ap₂ (λ (u : Session) (j : ℕ). read_in room u j (drop (line_len m) m)) (sym (after-append s (b ∷ []) x))
        (add_assoc n (length (answers_in s (b ∷ []))) (length (answers_in s' x)) ∙ ap (λ (j : ℕ). n + j) (sym w)) in
        simp (e, le-ltb room (n + text_room) h)
        (ap suc (r (omega arith) ∙ ap (λ (j : ℕ). line_len m + j) q)
        ∙ sym (suc-add (line_len m) (read_in room (after_of s (b ∷ x)) (n + length (answers_in s (b ∷ x))) (drop (line_len m) m))))

-- no more is read where nothing is left, or an answer might find no room
none_left : (room : ℕ) (s : Session) (n : ℕ) (m : List ℕ) → length m ≤ 0 → read_in room s n m ≡ 0
unfolding read_in
none_left room s n [] h = refl
none_left room s n (b ∷ m) h = absurd (omega arith)

no_room_lem : (room : ℕ) (s : Session) (n : ℕ) (m : List ℕ) → room < n + text_room → read_in room s n m ≡ 0
unfolding read_in
no_room_lem room s n [] h = refl
no_room_lem room s n (b ∷ m) h = simp (lt-ltb room (n + text_room) h)

paste_more : (w a out : List ℕ) → paste (answered w out) (length w) a (length a) ≡ answered (w ++ a) out
unfolding answered
paste_more w a out =
    let d = drop (length w) out in
    ap (λ (x : List ℕ). x ++ take (length a) a ++ drop (length w + length a) (w ++ d)) (take_at w d (length w) refl)
    ∙ ap (λ (x : List ℕ). w ++ x ++ drop (length w + length a) (w ++ d)) (take-length a)
    ∙ ap (λ (x : List ℕ). w ++ a ++ x) (drop-append-add w d (length a) ∙ drop-drop (length a) (length w) out)
    ∙ ap (λ (n : ℕ). w ++ a ++ drop n out) (sym (length-append w a))

-- ---- answers laid one after the other
pub answered-length : (w out : List ℕ) → length w ≤ length out → length (answered w out) ≡ length out
unfolding answered
answered-length w out h = length-append w (drop (length w) out) ∙ ap (λ (n : ℕ). length w + n) (length-drop (length w) out) ∙ omega arith

pub lay-more : (w a out : List ℕ) → length w + length a ≤ length out → laid_of (answered w out) (length w) a ≡ answered (w ++ a) out
unfolding laid_of fits
lay-more w a out h = simp (le-leb (length w + length a) (length (answered w out)) fit) pasted
  where
    fit : length w + length a ≤ length (answered w out)
    fit = let l = answered-length w out (omega arith) in omega arith

    pasted : paste (answered w out) (length w) a (length a) ≡ answered (w ++ a) out
    pasted = paste_more w a out

abbrev fed : Session → ℕ → ℕ → Fed
fed s n l = record { session = s; next = n; len = l }

fed-more : (s : Session) (at : ℕ) (p q : List ℕ) → line_fed (fed_by s at p) q ≡ fed_by s at (p ++ q)
unfolding line_fed fed_by
fed-more s at p q =
    ap₂ (λ (u : Session) (n : ℕ). fed u n (length (answers_in s p) + length (answers_in (after_of s p) q)))
    (sym (after-append s p q)) (add_assoc at (length p) (length q) ∙ ap (λ (n : ℕ). at + n) (sym (length-append p q)))
    ∙ ap (λ (n : ℕ). fed (after_of s (p ++ q)) (at + length (p ++ q)) n)
    (sym (ap length (answers-append s p q) ∙ length-append (answers_in s p) (answers_in (after_of s p) q)))

-- a line takes the place on
pub fed-on : (f : Fed) (piece : List ℕ) → f.next < length piece → f.next < (line_fed f (line_in piece f.next)).next
unfolding line_fed line_in
fed-on f piece h =
    let d = length-drop f.next piece in
    let l = line-length (drop f.next piece) in
    let j = line-some (drop f.next piece) (omega arith) in
    omega arith

-- ---- a piece from a place on, with k of its bytes read: the session, the place and the answers are those of these bytes
module _ (s : Session) (piece : List ℕ) (at : ℕ) (out₀ : List ℕ) where
  pub record SoFar (f : Fed) (out : List ℕ) : Type 0 where
    pub k : ℕ
    pub short : k ≤ length (drop at piece)
    pub fed : f ≡ fed_by s at (take k (drop at piece))
    pub room : length (answers_in s (take k (drop at piece))) ≤ length out₀
    pub laid : out ≡ answered (answers_in s (take k (drop at piece))) out₀
    pub read :
        read_in (length out₀) s 0 (drop at piece)
        ≡ k + read_in (length out₀) (after_of s (take k (drop at piece))) (length (answers_in s (take k (drop at piece)))) (drop k (drop at piece))

  pub none_yet : SoFar (record { session = s; next = at; len = 0 }) out₀
  unfolding fed_by after_of answers_in answer_bytes device_after said_in kept_after answered
  none_yet =
      record {
        k = 0;
        short = omega arith;
        fed = ap (λ (n : ℕ). record { session = s; next = n; len = 0 }) (sym (add-zero at));
        room = omega arith;
        laid = refl;
        read = sym (zero-add (read_in (length out₀) s 0 (drop at piece)));
      }

  -- the bytes from byte k on, and a line of them
  abbrev rest : ℕ → List ℕ
  rest k = drop k (drop at piece)

  abbrev line : ℕ → List ℕ
  line k = take (line_len (rest k)) (rest k)

  line-here : (k : ℕ) → k ≤ length (drop at piece) → line_in piece (fed_by s at (take k (drop at piece))).next ≡ line k
  unfolding line_in fed_by
  line-here k h =
      ap (λ (l : List ℕ). take (line_len l) l)
      (ap (λ (n : ℕ). drop (at + n) piece) (length-take-le k (drop at piece) h) ∙ sym (drop-drop k at piece))

  module _ (f : Fed) (out : List ℕ) (so : SoFar f out) where
    abbrev bytes : List ℕ
    bytes = take so.k (drop at piece)

    abbrev answers : List ℕ
    answers = answers_in s bytes

    abbrev next-answers : List ℕ
    next-answers = answers_in (after_of s bytes) (line so.k)

    len_is : f.len ≡ length answers
    unfolding fed_by
    len_is = ap (λ (g : Fed). g.len) so.fed

    pub out-length : length out ≡ length out₀
    out-length = ap length so.laid ∙ answered-length answers out₀ so.room

    more_bytes : take (so.k + line_len (rest so.k)) (drop at piece) ≡ bytes ++ line so.k
    more_bytes = take-add so.k (line_len (rest so.k)) (drop at piece)

    more-answers : answers_in s (take (so.k + line_len (rest so.k)) (drop at piece)) ≡ answers ++ next-answers
    more-answers = ap (answers_in s) more_bytes ∙ answers-append s bytes (line so.k)

    more-length : length (answers_in s (take (so.k + line_len (rest so.k)) (drop at piece))) ≡ length answers + length next-answers
    more-length = ap length more-answers ∙ length-append answers next-answers

    -- byte k and a line more
    abbrev on : ℕ
    on = so.k + line_len (rest so.k)

    abbrev all : List ℕ
    all = drop at piece

    read_more : length answers + text_room ≤ length out₀
        → read_in (length out₀) s 0 all
        ≡ on + read_in (length out₀) (after_of s (take on all)) (length (answers_in s (take on all))) (drop on all)
    read_more h =
        let j = line_len (rest so.k) in
        let room = length out₀ in
        so.read ∙ ap (λ (n : ℕ). so.k + n) (read-line room (after_of s bytes) (length answers) (rest so.k) h)
        ∙ sym (add_assoc so.k j (read_in room (after_of (after_of s bytes) (line so.k)) (length answers + length next-answers) (drop j (rest so.k))))
        ∙ ap₂ (λ (u : Session) (n : ℕ). on + read_in room u n (drop j (rest so.k)))
        (sym (ap (after_of s) more_bytes ∙ after-append s bytes (line so.k))) (sym more-length)
        ∙ ap (λ (l : List ℕ). on + read_in room (after_of s (take on all)) (length (answers_in s (take on all))) l) (drop-drop j so.k all)

    pub one_more : (f' : Fed) (out' : List ℕ) → f.len + text_room ≤ length out → f' ≡ line_fed f (line_in piece f.next)
        → out' ≡ laid_of out f.len (answers_in f.session (line_in piece f.next)) → SoFar f' out'
    unfolding fed_by
    one_more f' out' h e l =
        let n = len_is in
        let o = out-length in
        let a = answers-short (after_of s bytes) (rest so.k) in
        let w = more-length in
        let c = line-short (rest so.k) in
        let d = length-drop so.k (drop at piece) in
        let b = so.short in
        let g : length answers + length next-answers ≤ length out₀ = omega arith in
        record {
          k = so.k + line_len (rest so.k);
          short = omega arith;
          fed =
              e ∙ ap (λ (g : Fed). line_fed g (line_in piece g.next)) so.fed
              ∙ ap (line_fed (fed_by s at bytes)) (line-here so.k so.short) ∙ fed-more s at bytes (line so.k) ∙ ap (fed_by s at) (sym more_bytes);
          room = omega arith;
          laid =
              l ∙ ap₂ (λ (x : List ℕ) (g : Fed). laid_of x g.len (answers_in g.session (line_in piece g.next))) so.laid so.fed
              ∙ ap (λ (x : List ℕ). laid_of (answered answers out₀) (length answers) (answers_in (after_of s bytes) x)) (line-here so.k so.short)
              ∙ lay-more answers next-answers out₀ g ∙ ap (λ (x : List ℕ). answered x out₀) (sym more-answers);
          read = read_more (omega arith);
        }

    next-is : f.next ≡ at + so.k
    unfolding fed_by
    next-is = ap (λ (g : Fed). g.next) so.fed ∙ ap (λ (n : ℕ). at + n) (length-take-le so.k (drop at piece) so.short)

    all_read : ltb f.next (length piece) ≡ false → length (rest so.k) ≤ 0
    all_read p =
        let h = ltb-false f.next (length piece) p in
        let n = next-is in
        let d = length-drop so.k (drop at piece) in
        let c = length-drop at piece in
        omega arith

    too-full : leb (f.len + text_room) (length out) ≡ false → length out₀ < length answers + text_room
    too-full q =
        let h = leb-false (f.len + text_room) (length out) q in
        let n = len_is in
        let o = out-length in
        omega arith

    -- at the end of the piece, or of the room
    none_read : (ltb f.next (length piece) && leb (f.len + text_room) (length out)) ≡ false
        → read_in (length out₀) (after_of s bytes) (length answers) (rest so.k) ≡ 0
    none_read e = by_end _ refl _ refl e
      where
        by_end : (a : Bool) → ltb f.next (length piece) ≡ a → (b : Bool) → leb (f.len + text_room) (length out) ≡ b → (a && b) ≡ false
            → read_in (length out₀) (after_of s bytes) (length answers) (rest so.k) ≡ 0
        by_end false p b q e = none_left (length out₀) (after_of s bytes) (length answers) (rest so.k) (all_read p)
        by_end true p false q e = no_room_lem (length out₀) (after_of s bytes) (length answers) (rest so.k) (too-full q)
        by_end true p true q e = absurd (true≢false e)

    pub at-end : (ltb f.next (length piece) && leb (f.len + text_room) (length out)) ≡ false
        → (f ≡ fed_by s at (bytes_read s piece at out₀)) × (out ≡ answered (answers_in s (bytes_read s piece at out₀)) out₀)
    unfolding bytes_read
    at-end e =
        let z : so.k ≡ read_in (length out₀) s 0 (drop at piece) =
        sym (so.read ∙ ap (λ (n : ℕ). so.k + n) (none_read e) ∙ add-zero so.k) in (
          so.fed ∙ ap (λ (n : ℕ). fed_by s at (take n (drop at piece))) z,
          so.laid ∙ ap (λ (n : ℕ). answered (answers_in s (take n (drop at piece))) out₀) z,
        )

    pub len-within : f.len ≤ length out
    len-within = let n = len_is in let o = out-length in let r = so.room in omega arith

reads-some : (room : ℕ) (s : Session) (m : List ℕ) → text_room ≤ room → 0 < length m → 0 < length (take (read_in room s 0 m) m)
unfolding read_in
reads-some room s [] h l = absurd (omega arith)
reads-some room s (b ∷ m) h l = simp (le-ltb room text_room h) (omega arith)

-- a buffer with room for an answer takes the place on
pub feeds-on : (s : Session) (piece : List ℕ) (at : ℕ) (out : List ℕ) → text_room ≤ length out → at < length piece
    → at < (fed_by s at (bytes_read s piece at out)).next
unfolding fed_by bytes_read
feeds-on s piece at out h g =
    let d = length-drop at piece in
    let n = reads-some (length out) s (drop at piece) h (omega arith) in
    omega arith
