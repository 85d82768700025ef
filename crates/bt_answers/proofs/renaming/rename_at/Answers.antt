use Rattle.std.proofs.Common.{◌∙◌, ap, sym, ℕ, List, Bor, Option, option_map}
use Rattle.bt_talk.specs.Replies.{outcome_of}
use Rattle.bt_mentions.specs.Databases.{part}
use Rattle.bt_places.specs.Mentioning.{mention_at}
use Rattle.bt_answers.specs.Renaming.{is_named, renamed_if_free, rename_at}
use Rattle.bt_answers.proofs.MentionLemmas.{found_renamed}
use Rattle.bt_answers.proofs.renaming.rename_at.Goals as goal

pub returns : goal.returns
returns g c =
    let files = (g.P.Paper.shown c.args.workspace.now.paper.now).files in
    let editor = c.args.workspace.now.editor in
    let document = c.args.cursor.now.document.now in
    let one = c.in-Some-2.one in
    let free = c.in_ok-outcome.ensures ∙
    ap (renamed_if_free files editor.documents.now editor.counting c.wanted_of.result c.part.result.now) c.as_bytes.ensures.value in
    let named = sym (c.is_named.ensures ∙ ap (λ (t : List ℕ). is_named t one) c.as_slice-text.ensures) ∙ c.if-not-is_named.false in
    found_renamed files editor.documents.now editor.counting document one (mention_at document c.args.cursor.now.at) c.wanted_of.result c.part.result.now c.in-Some.new.now
    (outcome_of c.in_ok-outcome.outcome) (sym c.in-Some-2.is ∙ c.in_ok-one.ensures) named c.wanted_of.ensures
    (c.part.ensures.value ∙ ap (part one.from one.to) c.as_slice-text.ensures) free ∙
    ap (λ (n : Option (Bor (List ℕ))). rename_at files editor.documents.now editor.counting document c.args.cursor.now.at (option_map (λ (s : Bor (List ℕ)). s.now) n)) (sym c.in-Some.is)
