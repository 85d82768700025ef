use Rattle.std.proofs.Common.{◌≡◌, ◌∙◌, ap, sym, ℕ, List, [], ◌∷◌, ◌++◌}
use Rattle.std.specs.Prelude.{Vec, bytes_eq}
use Rattle.std.specs.declared.alloc.Global.{Global}
use Rattle.indexmap.specs.IndexSet.{insert_key}
use Rattle.bt_text.specs.NameList.{is_among}
use Rattle.bt_text.proofs.NameLemmas.{on_ok}
use Rattle.bt_job.proofs.NameTableLemmas.{noted}
use Rattle.bt_job.proofs.name_table.NameTable.note.Goals as goal

pub returns-clause-mirrors : goal.returns-clause-mirrors
returns-clause-mirrors c = λ name.
    let put : c.insert.new.self.keys ≡ insert_key (λ k m. bytes_eq k.items m.items) c.reserve.new.self.keys c.in_ok-key.key =
    on_ok _ c.insert.result (c.insert.ensures.succeeds c.in_ok-reserve.ensures.ok) c.insert.ensures.keys in
    noted c.args.list.now c.args.self.now.names.keys c.insert.new.self.keys c.in_ok-key.key c.args.name.now c.requires
    (put ∙ ap (λ (keys : List (Vec ℕ Global)). insert_key (λ k m. bytes_eq k.items m.items) keys c.in_ok-key.key) c.in_ok-reserve.ensures.keys) c.in_ok-key.ensures.items name
    ∙ ap (λ (names : List (List ℕ)). is_among names name) (sym (c.in_ok-push.ensures.ok ∙ ap (λ (text : List ℕ). c.args.list.now ++ text ∷ []) c.in_ok-text.ensures))
