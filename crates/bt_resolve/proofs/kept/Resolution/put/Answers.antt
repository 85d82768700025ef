use Rattle.std.proofs.Common.{◌≡◌, ◌∙◌, ap, sym, subst, ℕ, List, Option, drop, length, map, ◌<◌, arith}
use Rattle.std.proofs.lemmas.List.{drop-set-lt, length-map}
use Rattle.bt_bib.specs.Items.{items_of}
use Rattle.bt_bib.specs.declared.placed_pieces.PlacedPiece.{PlacedPiece}
use Rattle.bt_resolve.specs.declared.stored.Stored.{Stored}
use Rattle.bt_resolve.specs.declared.question.Question.{Question}
use Rattle.bt_resolve.specs.Resolved.{all_items}
use Rattle.bt_resolve.specs.inner.Databases.{DefineNothing}
use Rattle.bt_resolve.specs.inner.Kept.{IsFound, IsResolvedEdit, IsWithin, stored_for, with_database}
use Rattle.bt_resolve.proofs.KeptLemmas.{put_is}
use Rattle.bt_resolve.proofs.kept.Resolution.put.Goals as goal

pub put_seen-requires : goal.put_seen-requires
put_seen-requires c =
    let q = c.self.inside.question in
    let count : length (stored_for c.args.self.now) ≡ length c.self.inside.found.values =
    ap (λ (r : Question). length (stored_for r)) (sym c.self.view_is)
    ∙ sym (length-map (stored_for q) (λ (s : Stored). s.values))
    ∙ ap (λ (vs : List (List (Option (List ℕ)))). length vs) (sym c.self.invariant.0.values_read) in
    subst (λ (n : ℕ). IsWithin c.args.edit.seen n) count c.requires.place

pub set-requires : goal.set-requires
set-requires c = subst (λ (q : Question). c.args.number < length q.databases) (sym c.self.view_is) c.requires.database

pub invariant_of-self : goal.invariant_of-self
invariant_of-self c =
    let q = c.self.inside.question in
    let f = c.self.inside.found in
    let made = c.args.edit in
    let is = subst (λ (k : Question). IsResolvedEdit k c.args.number c.args.items made) (sym c.self.view_is) c.requires in
    let g = record f { values = c.put_seen.new.values; all = record f.all { entries = c.put_seen.new.entries; messages = made.messages } } in (
      subst (λ (ds : List (List PlacedPiece)). IsFound (record q { databases = ds }) g) (sym c.set.ensures)
          (put_is q c.args.number c.args.items made f g c.self.invariant.0 is (λ j. record f { values = c.put_seen.ensures.values j; all = record f.all { entries = c.put_seen.ensures.entries j; messages = made.messages } })),
      λ k le. subst (λ (ds : List (List PlacedPiece)). DefineNothing (all_items (map items_of ds)))
          (sym (ap (drop k) c.set.ensures ∙ drop-set-lt k q.databases c.args.number c.args.items (omega (arith, le, c.max-self-inside.ensures))))
          (c.self.invariant.1 k (omega (arith, le, c.max-self-inside.ensures))),
    )

pub returns : goal.returns
returns c = ap (λ (ds : List (List PlacedPiece)). record c.self.inside.question { databases = ds }) c.set.ensures ∙ ap (with_database c.args.number c.args.items) c.self.view_is
