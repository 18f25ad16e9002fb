-- What is held once a machine has booted.
use Rattle.std.proofs.Common.{◌≡◌, ℕ, ◌<◌, true, length, Some, refl, sym, ap, subst, ◌∙◌}
use Rattle.ow_base.specs.declared.machine.Shape.{Shape}
use Rattle.ow_base.specs.declared.worlds.Load.{Load}
use Rattle.ow_base.specs.declared.worlds.Program.{Program}
use Rattle.phys_memory.specs.Memory.{words_of}
use Rattle.record_layouts.specs.declared.memory_map.MemoryMap.{MemoryMap}
use Rattle.record_layouts.specs.Held.{Records}
use Rattle.record_layouts.specs.Overlay.{area_at}
use Rattle.record_layouts.specs.Reading.{records_in}
use Rattle.ow_plant.specs.State.{PlantState, IsReady}
use Rattle.intent_store.specs.Live.{is_able, map_of, records_held, rest_of}
use Rattle.kernel_traps.specs.Boot.{IsBootable, pages_before, program_in}
use Rattle.kernel_traps.specs.BootLayout.{boot_map, booted_plan}
use Rattle.kernel_builder.specs.Sets.{IsBuilt}
use Rattle.kernel_traps.specs.BootState.{IsBooted}
use Rattle.kernel_traps.specs.BootStores.{IsBooting}
use Rattle.kernel_traps.specs.BootTables.{HasWords}
use Rattle.kernel_traps.proofs.BootReads.{booted_read, none_read}
use Rattle.kernel_traps.proofs.BootReady.{area_zero}
use Rattle.kernel_traps.proofs.BootStores.{booting_base, booting_on, records_shut, refused_none}
use Rattle.kernel_traps.proofs.BootTables.{cache_owner_none, owner_none, table_none, tables_there, words_there}

-- a machine that was ready has been built as a load says
pub record IsMade (load : Load) (old new : PlantState) : Type 0 where
  pub is : IsBootable load
  pub ready : IsReady load.shape old
  pub first : IsBooting old
  pub built : IsBuilt (boot_map load) (booted_plan load) (words_of old.memory) (words_of new.memory)
  pub same_rest : rest_of new ≡ rest_of old
  pub able : is_able new ≡ true

module _ (load : Load) (old new : PlantState) (m : IsMade load old new) where
  pub of_shape : new.shape ≡ load.shape
  of_shape = ap (λ (s : PlantState). s.shape) m.same_rest ∙ m.ready.of_shape

  pub last : IsBooting new
  last = booting_on old new m.first m.same_rest (refused_none new m.able) m.built.area.shut

  -- its map is that of half A
  map_is : map_of new ≡ boot_map load
  map_is =
      let frames : new.shape.user_frames ≡ load.shape.user_frames = ap (λ (h : Shape). h.user_frames) of_shape in
      let sectors : new.shape.sectors ≡ load.shape.sectors = ap (λ (h : Shape). h.sectors) of_shape in
      rw (last.of_area, frames, sectors) refl

  -- so its records are read from the words that were built
  records_are : records_held new ≡ records_in (boot_map load) true (area_at (words_of new.memory) 1)
  records_are =
      records_shut new (map_of new) last (booting_base new last)
      ∙ ap (λ (map : MemoryMap). records_in map true (area_at (words_of new.memory) 1)) map_is

  blank : (number : ℕ) → area_at (words_of old.memory) 1 number ≡ 0
  blank number = ap (λ memory. area_at (words_of memory) 1 number) m.ready.zeroed ∙ area_zero load.shape.user_frames 1 number

  booted_area : IsBooted (records_in (boot_map load) true (area_at (words_of new.memory) 1)) load
  unfolding records_in
  booted_area = record {
    base = refl;
    cache = refl;
    pool = refl;
    user_frames = refl;
    sectors = refl;
    records = booted_read (boot_map load) (area_at (words_of new.memory) 1) load m.built.area.records;
    no_record = none_read (boot_map load) true (area_at (words_of new.memory) 1);
    tables = tables_there load m.is (area_at (words_of old.memory) 1) (area_at (words_of new.memory) 1) blank m.built.area;
    no_table = table_none load m.is (area_at (words_of old.memory) 1) (area_at (words_of new.memory) 1) blank m.built.area;
    no_owner = owner_none load m.is (area_at (words_of old.memory) 1) (area_at (words_of new.memory) 1) blank m.built.area;
    no_cache_owner = cache_owner_none load m.is (area_at (words_of old.memory) 1) (area_at (words_of new.memory) 1) blank m.built.area;
  }

  pub booted : IsBooted (records_held new) load
  booted = subst (λ (r : Records). IsBooted r load) (sym records_are) booted_area

  pub words_booted : (slot : ℕ) (program : Program) → slot < length load.starts → program_in load slot ≡ Some program
      → HasWords (words_of new.memory) (pages_before load slot) program
  words_booted = words_there load m.is (words_of old.memory) (words_of new.memory) m.built
