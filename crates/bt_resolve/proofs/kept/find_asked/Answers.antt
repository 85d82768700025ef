use Rattle.std.proofs.Common.{◌≡◌, ◌∙◌, ap, refl, map, List}
use Rattle.bt_bib.specs.Items.{items_of}
use Rattle.bt_bib.specs.declared.placed_pieces.PlacedPiece.{PlacedPiece}
use Rattle.bt_text.specs.ByName.{known}
use Rattle.bt_resolve.specs.inner.Databases.{after_databases, nothing_read, state_of}
use Rattle.bt_resolve.specs.inner.Reaches.{database_reaches}
use Rattle.bt_resolve.proofs.KeptLemmas.{found_is}
use Rattle.bt_resolve.proofs.kept.find_asked.Goals as goal

pub returns : goal.returns
returns c =
    let q = c.args.question.now in
    let a = c.args.asked.now in
    let before = state_of c.in_ok-read.read in
    let s = state_of c.read_databases.new.reading in
    let made = c.in_ok-found.ensures in
    let start : before ≡ nothing_read q.declared.macros = c.in_ok-read.ensures ∙ ap nothing_read c.as_slice.ensures in
    found_is q a before s q.databases c.in_ok-found.found c.requires.fields c.requires.asked start refl
    (c.in_ok-reaches.ensures.read ∙ ap (λ (ds : List (List PlacedPiece)). after_databases a 1 before (map items_of ds)) c.as_slice-databases.ensures)
    (ap (λ x. x.reaches) made ∙ c.in_ok-reaches.ensures.reaches ∙ ap (λ (ds : List (List PlacedPiece)). database_reaches a 1 before ds) c.as_slice-databases.ensures)
    (ap (λ x. known x.macros) made)
    (ap (λ x. x.store) made)
    (ap (λ x. x.values) made)
    (ap (λ x. x.listed) made)
    (ap (λ x. x.places) made)
    (ap (λ x. x.all) made)
