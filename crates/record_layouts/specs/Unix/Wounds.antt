-- Wounds: what a panic left that cannot be read any more.
use Rattle.std.specs.Prelude.{ℕ, Bool, false, List, Option, Some, None}
use Rattle.record_layouts.specs.Unix.State.{Unix, Process, File}

-- what becomes of a terminal that cannot be read: the bytes that its device has, and how many of its typed bytes had
-- arrived
pub record Reset : Type 0 where
  pub tape : List ℕ
  pub arrived : ℕ

pub record Wounds : Type 0 where
  -- the live processes of which the head, the record, a table or the owner of a page cannot be read
  pub core : (pid : ℕ) → Bool
  -- the ended children whose record cannot be read
  pub gone : (pid : ℕ) → Bool
  -- the descriptions whose record cannot be read
  pub descs : (number : ℕ) → Bool
  -- the files whose record cannot be read
  pub reset : (file : ℕ) → Bool
  -- the files of which the cache may have lost a page
  pub paged : (file : ℕ) → Bool
  -- whether the head cannot be read
  pub head : Bool
  -- the terminals that cannot be read
  pub ttys : (tty : ℕ) → Option Reset
  -- the live processes whose signals cannot be read
  pub sigs : (pid : ℕ) → Bool
  -- all files, and the byte at each address of each live process, as they are read
  pub files : (number : ℕ) → Option File
  pub pages : (pid address : ℕ) → ℕ

abbrev pub bytes_by : Option Process → (address : ℕ) → ℕ
bytes_by (Some p) address = p.pages.bytes address
bytes_by None address = 0

-- nothing of a state is wounded
unfoldable pub no_wounds : Unix → Wounds
no_wounds v = record {
  core = λ pid. false;
  gone = λ pid. false;
  descs = λ number. false;
  reset = λ file. false;
  paged = λ file. false;
  head = false;
  ttys = λ tty. None;
  sigs = λ pid. false;
  files = v.files;
  pages = λ pid. bytes_by (v.processes pid);
}
