use Rattle.std.proofs.Common.{◌∙◌, sym}
use Rattle.bt_files.proofs.KeyLemmas.{own_stays, met_stays, noted}
use Rattle.bt_files.proofs.names.Names.note.Goals as goal
use Rattle.bt_files.proofs.names.Names.note.Goals.{then-is_own_name-via-then-is_own_name, then-is_own_name-via-else-is_own_name+then-contains}

pub returns-then-is_own_name-clause-ok : goal.returns-then-is_own_name-clause-ok
returns-then-is_own_name-clause-ok c =
    elim c.then-is_own_name.branch [
      | then-is_own_name-via-then-is_own_name w ↦ own_stays c.args.author.now c.args.self.now (sym c.is_own_name.ensures ∙ w.if-is_own_name.true)
      | then-is_own_name-via-else-is_own_name+then-contains w ↦
          met_stays c.args.author.now c.self.inside.authors.keys c.args.self.now c.self.view_is (sym c.is_own_name.ensures ∙ w.if-is_own_name.false)
          (sym w.contains.ensures ∙ w.if-contains.true)
    ]

pub returns-clause-ok : goal.returns-clause-ok
returns-clause-ok c =
    noted c.args.author.now c.self.inside.authors.keys c.insert.new.self.keys c.in_ok-key.key c.args.self.now c.self.view_is
    (sym c.is_own_name.ensures ∙ c.if-is_own_name.false) (sym c.contains.ensures ∙ c.if-contains.false) c.in_ok-key.ensures.items c.in_ok-insert.ensures.keys
