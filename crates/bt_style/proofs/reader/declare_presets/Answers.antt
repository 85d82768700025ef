use Rattle.bt_style.specs.Program.{program_of}
use Rattle.bt_style.proofs.PresetLemmas.{free_crossref, free_sort_key, free_entry_max, free_global_max}
use Rattle.bt_style.proofs.reader.declare_presets.Goals as goal

pub declare_preset-requires : goal.declare_preset-requires
declare_preset-requires c = free_crossref (program_of c.args.draft.now) c.requires

pub declare_preset-requires-2 : goal.declare_preset-requires-2
declare_preset-requires-2 c =
    free_sort_key (program_of c.args.draft.now) (program_of c.declare_preset.new.draft) c.requires c.in_ok-declare_preset.ensures

pub declare_preset-requires-3 : goal.declare_preset-requires-3
declare_preset-requires-3 c =
    free_entry_max (program_of c.args.draft.now) (program_of c.declare_preset.new.draft) (program_of c.declare_preset-2.new.draft)
    c.requires c.in_ok-declare_preset.ensures c.in_ok-declare_preset-2.ensures

pub declare_preset-requires-4 : goal.declare_preset-requires-4
declare_preset-requires-4 c =
    free_global_max (program_of c.args.draft.now) (program_of c.declare_preset.new.draft) (program_of c.declare_preset-2.new.draft) (program_of c.declare_preset-3.new.draft)
    c.requires c.in_ok-declare_preset.ensures c.in_ok-declare_preset-2.ensures c.in_ok-declare_preset-3.ensures
