use Rattle.std.proofs.Common.{◌≡◌, ◌∙◌, ap, sym, ℕ, ◌+◌, ◌-◌, ◌<◌, true, false, List, [], length, get_or, Some, None, arith}
use Rattle.std.specs.List.{slice_get}
use Rattle.std.specs.Option.{option_map}
use Rattle.bt_files.specs.Names.{numbered}
use Rattle.bt_files.proofs.TableLemmas.{Stands, lacks, has}
use Rattle.bt_files.proofs.KeyLemmas.{at_key}
use Rattle.bt_files.proofs.names.Names.author_name.Goals as goal
use Rattle.bt_files.proofs.names.Names.author_name.Goals.{then-number-eq0-via-then-number-eq0, then-number-eq0-via-else-number-eq0+then-count-number}

pub returns-in_err-number : goal.returns-in_err-number
returns-in_err-number c =
    ap (option_map (λ name. name.now)) c.from_residual.ensures
    ∙ lacks c.args.self.now c.args.session.now (sym c.is_stand_in.ensures ∙ c.if-not-is_stand_in.false)
    (λ (author : List ℕ) (s : Stands 1 c.args.self.now author c.args.session.now).
    let within : s.place < length c.args.self.now = s.within in
    let wrong : None ≡ Some (1 + s.place) = sym c.in_err-number.was ∙ c.number_of.ensures (1 + s.place) author (omega arith) (sym s.same) in
    cc)

pub returns-then-number-eq0 : goal.returns-then-number-eq0
returns-then-number-eq0 c =
    lacks c.args.self.now c.args.session.now (sym c.is_stand_in.ensures ∙ c.if-not-is_stand_in.false)
    (λ (author : List ℕ) (s : Stands 1 c.args.self.now author c.args.session.now).
    let within : s.place < length c.args.self.now = s.within in
    let read : Some c.in_ok-number.number ≡ Some (1 + s.place) = sym c.in_ok-number.was ∙ c.number_of.ensures (1 + s.place) author (omega arith) (sym s.same) in
    let is : c.in_ok-number.number ≡ 1 + s.place = cc in
    elim c.then-number-eq0.branch [
      | then-number-eq0-via-then-number-eq0 w ↦ omega arith
      | then-number-eq0-via-else-number-eq0+then-count-number w ↦ omega arith
    ])

pub returns-then-is_numbered : goal.returns-then-is_numbered
returns-then-is_numbered c =
    let place : ℕ = c.in_ok-number.number - 1 in
    let stored : slice_get c.self.inside.authors.keys (c.in_ok-number.number - 1) ≡ Some c.in_ok-author.author.now = sym c.in_ok-author.ensures.key in
    let there : get_or c.args.self.now (c.in_ok-number.number - 1) [] ≡ c.in_ok-author.author.now.items =
    at_key c.self.inside.authors.keys (c.in_ok-number.number - 1) c.in_ok-author.author.now c.args.self.now c.self.view_is stored in
    let next : 1 + (c.in_ok-number.number - 1) ≡ c.in_ok-number.number = omega arith in
    let is : c.args.session.now ≡ numbered c.in_ok-number.number c.deref.result.now = c.is_numbered.ensures.0 c.if-is_numbered.true in
    has c.args.self.now c.deref-then-is_numbered.result.now c.args.session.now (sym c.is_stand_in.ensures ∙ c.if-not-is_stand_in.false) (omega arith)
    (record {
      place = c.in_ok-number.number - 1;
      within = omega arith;
      there = there ∙ sym c.deref-then-is_numbered.ensures.value;
      same = ap (λ (n : ℕ). numbered n c.deref-then-is_numbered.result.now) next
          ∙ ap (λ (a : List ℕ). numbered c.in_ok-number.number a) (c.deref-then-is_numbered.ensures.value ∙ sym c.deref.ensures.value) ∙ sym is;
    })

pub returns-else-is_numbered : goal.returns-else-is_numbered
returns-else-is_numbered c =
    let stored : slice_get c.self.inside.authors.keys (c.in_ok-number.number - 1) ≡ Some c.in_ok-author.author.now = sym c.in_ok-author.ensures.key in
    let there : get_or c.args.self.now (c.in_ok-number.number - 1) [] ≡ c.in_ok-author.author.now.items =
    at_key c.self.inside.authors.keys (c.in_ok-number.number - 1) c.in_ok-author.author.now c.args.self.now c.self.view_is stored in
    lacks c.args.self.now c.args.session.now (sym c.is_stand_in.ensures ∙ c.if-not-is_stand_in.false)
    (λ (author : List ℕ) (s : Stands 1 c.args.self.now author c.args.session.now).
    let within : s.place < length c.args.self.now = s.within in
    let read : Some c.in_ok-number.number ≡ Some (1 + s.place) = sym c.in_ok-number.was ∙ c.number_of.ensures (1 + s.place) author (omega arith) (sym s.same) in
    let is : c.in_ok-number.number ≡ 1 + s.place = cc in
    let at : s.place ≡ c.in_ok-number.number - 1 = omega arith in
    let its : author ≡ c.deref.result.now =
    sym s.there ∙ ap (λ (n : ℕ). get_or c.args.self.now n []) at ∙ there ∙ sym c.deref.ensures.value in
    let same : c.args.session.now ≡ numbered c.in_ok-number.number c.deref.result.now =
    sym s.same ∙ ap (λ (n : ℕ). numbered n author) (sym is) ∙ ap (λ (a : List ℕ). numbered c.in_ok-number.number a) its in
    let wrong : false ≡ true = sym c.if-is_numbered.false ∙ c.is_numbered.ensures.1 same in
    cc)
