-- What is said of a file after its name: why an image is refused, with paper 01's number, or why a file cannot be used.
-- Assumes nothing.
use Rattle.std.specs.Prelude.{ℕ, Bool, List, ◌++◌, ltb, if◌then◌else◌, ◌==◌}
use Rattle.texts.specs.Answers.{decimal_text}
use Rattle.texts.specs.Spelled.{spelled}
use Rattle.phrases.specs.declared.refusals.Trouble.{Trouble}
use Rattle.phrases.specs.declared.refusals.Trouble.TheVariants.{NoEntry, NotPermitted, Folder, NotInFolder, NoSpace, Other}

-- ---- images
-- "7 for an image shorter than its version's table .. 7 for a length other than the version's", for a file of n bytes whose image
-- should have so many: of both it is so that they are under or over that length
unfoldable pub side : ℕ → ℕ → List ℕ
side whole n = if ltb whole n then spelled ": refused 7 (over " else spelled ": refused 7 (under "

unfoldable pub not_whole : ℕ → ℕ → List ℕ
not_whole whole n = side whole n ++ decimal_text whole ++ spelled " bytes)\n"

-- "8 | image's first 18 bytes differ from the table", "9 | record or bodies break the soundness rules"
unfoldable pub refusal : ℕ → ℕ → ℕ → List ℕ
refusal code whole n =
    if code == 7 then not_whole whole n else
    if code == 8 then spelled ": refused 8 (contents differ)\n" else
    spelled ": refused 9 (bodies unsound)\n"

-- ---- files
-- what was tried
unfoldable pub attempt : Bool → List ℕ
attempt writing = if writing then spelled ": cannot be written: " else spelled ": cannot be read: "

-- what the system says of it
unfoldable pub reason : Trouble → List ℕ
reason NoEntry = spelled "no such file or folder\n"
reason NotPermitted = spelled "not permitted\n"
reason Folder = spelled "a folder\n"
reason NotInFolder = spelled "not in a folder\n"
reason NoSpace = spelled "no space\n"
reason Other = spelled "the system refuses\n"

-- the two together, after the file's name
unfoldable pub trouble : Bool → Trouble → List ℕ
trouble writing why = attempt writing ++ reason why
