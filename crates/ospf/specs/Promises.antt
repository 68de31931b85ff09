-- What Point 6, "Taking in OSPF", promises, from the bytes of the run and of the lent buffer: statements only, ending in the type `Point6`.
-- `Laws/Promises` proves it. What a bad LSA is says `Run.GoodLsa`, which network a run means says `Means.Means`.
-- Assumes nothing.
use Rattle.std.specs.Prelude.{ℕ, ◌≤◌, ◌<◌, ◌≡◌, ◌⊎◌, ◌↔◌, map, length}
use Rattle.lfa.specs.Lists.{below, flat}
use Rattle.lfa.specs.Network.{Network}
use Rattle.lfa.specs.File.{Bytes}
use Rattle.lfa.specs.FileOf.{file_of, WithinLimits}
use Rattle.lfa.specs.Demands.{FileMade}
use Rattle.ospf.specs.Run.{lsa_bytes, FirstBad, WholeRun, lsas_of}
use Rattle.ospf.specs.Means.{Means}
use Rattle.ospf.specs.Import.{ImportAnswer, refused, written, import_answer, import_exit}

-- the run is good LSAs, end to end, and they mean this network
pub record RunMeans (run : Bytes) (net : Network) : Type 0 where
  pub lsas : ℕ
  pub whole : WholeRun run lsas
  pub means : Means (lsas_of run lsas) net

-- how many bytes were written
unfoldable pub count_of : ImportAnswer → ℕ
count_of (refused number value) = 0
count_of (written count) = count

pub record Point6 : Type 0 where
  -- "Read a run of whole LSAs": a run has a first bad LSA, or is good LSAs end to end, which mean a network ..
  pub bad_or_meant : (run : Bytes) → ((k : ℕ) × FirstBad run k) ⊎ ((net : Network) × RunMeans run net)
  pub end_to_end : (run : Bytes) (n : ℕ) → WholeRun run n → flat (map (lsa_bytes run) (below n)) ≡ run
  -- .. and only one
  pub one_network : (run : Bytes) (net other : Network) → RunMeans run net → RunMeans run other → net ≡ other
  -- "Number 16, value the first bad LSA counted from 0"
  pub refused_16 : (run : Bytes) (size k : ℕ) → (import_answer run size ≡ refused 16 k) ↔ FirstBad run k
  -- "number 17, value 0, tried next, when the network is outside a limit of document 01 or the file doesn't fit the buffer"
  pub refused_17 : (run : Bytes) (size value : ℕ) →
      (import_answer run size ≡ refused 17 value) ↔ ((net : Network) × RunMeans run net × (value ≡ 0) × (WithinLimits net → size < length (file_of net)))
  pub no_other_number : (run : Bytes) (size number value : ℕ) → import_answer run size ≡ refused number value → (number ≡ 16) ⊎ (number ≡ 17)
  -- else it returns the file's length
  pub written_when : (run : Bytes) (size count : ℕ) →
      (import_answer run size ≡ written count)
      ↔ ((net : Network) × RunMeans run net × WithinLimits net × (count ≡ length (file_of net)) × (length (file_of net) ≤ size))
  -- "both write nothing"
  pub writes_nothing : (run before : Bytes) (number value : ℕ) → import_answer run (length before) ≡ refused number value → import_exit run before ≡ before
  -- "The reader always accepts what is written, and it holds just these routers, links and prefixes. The buffer beyond it is untouched."
  pub file_made : (run before : Bytes) (net : Network) → RunMeans run net →
      FileMade (WithinLimits net) (length (file_of net)) (λ other. other ≡ net) (count_of (import_answer run (length before))) before (import_exit run before)
