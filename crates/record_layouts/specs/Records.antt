-- The records of an area.
use Rattle.std.specs.Prelude.{ℕ, Option}
use Rattle.record_layouts.specs.declared.memory_map.MemoryMap.{MemoryMap}
use Rattle.record_layouts.specs.declared.head.HeadRec.{HeadRec}
use Rattle.record_layouts.specs.declared.proc.ProcRec.{ProcRec}
use Rattle.record_layouts.specs.declared.sig.SigRec.{SigRec}
use Rattle.record_layouts.specs.declared.desc.DescRec.{DescRec}
use Rattle.record_layouts.specs.declared.file.FileRec.{FileRec}
use Rattle.record_layouts.specs.declared.cache.CacheRec.{CacheRec}
use Rattle.record_layouts.specs.declared.term.TermRec.{TermRec}
use Rattle.record_layouts.specs.declared.row.RowRec.{RowRec}
use Rattle.record_layouts.specs.declared.exit.ExitRec.{ExitRec}

-- The records of an area, none where the words are no record. Processes and signals go by slot, exits by pid, the
-- others by their number; the words that name the owners of frames go by user frame and by cache entry.
pub record Records : Type 0 where
  -- where the area, the cache and the user frames are
  pub map : MemoryMap
  pub head : Option HeadRec
  pub procs : ℕ → Option ProcRec
  pub sigs : ℕ → Option SigRec
  pub descs : ℕ → Option DescRec
  pub files : ℕ → Option FileRec
  pub caches : ℕ → Option CacheRec
  pub terms : ℕ → Option TermRec
  pub rows : ℕ → Option RowRec
  pub exits : ℕ → Option ExitRec
  pub owners : ℕ → ℕ
  pub cache_owners : ℕ → ℕ
  pub table_words : (slot table word : ℕ) → ℕ
