-- The actions that spell cross-references like their entries have no floats.
use Rattle.std.proofs.Common.{ℕ, List, [], ◌∷◌, refl, Option, Some, None}
use Rattle.std.specs.List.{AllByRecursion}
use Rattle.serde_json.specs.Data.{Data}
use Rattle.bt_talk.specs.Handled.{HasNoFloat}
use Rattle.bt_bib.specs.declared.placed_pieces.PlacedPiece.{PlacedPiece}
use Rattle.bt_documents.specs.declared.document.Document.{Document}
use Rattle.bt_mentions.specs.declared.mention.Mention.{Mention}
use Rattle.bt_mentions.specs.Databases.{part, with_piece}
use Rattle.bt_mentions.specs.Inside.{is_parent}
use Rattle.bt_writing.specs.Respelling.{respelled, respelling_at, with_own, with_respelling, with_respellings_around}
use Rattle.bt_places.proofs.PlainLists.{all_both, either_plain, fold_plain}

own_plain : (d : Document) (m : Mention) (o : Option (List ℕ)) (list : List Data) → AllByRecursion HasNoFloat list → AllByRecursion HasNoFloat (with_own d m list o)
own_plain d m None list p = p
own_plain d m (Some own) list p = all_both HasNoFloat list (respelling_at d m own ∷ []) p (refl, tt)

respelling_plain : (d : Document) (pieces : List PlacedPiece) (list : List Data) (m : Mention) → AllByRecursion HasNoFloat list → AllByRecursion HasNoFloat (with_respelling d pieces list m)
respelling_plain d pieces list m p =
    let own = respelled (part m.from m.to d.text) pieces in
    either_plain (is_parent m.role) (with_own d m list own) list (own_plain d m own list p) p

pub respellings_plain : (d : Document) (pieces : List PlacedPiece) (o : Option PlacedPiece) (list : List Data) → AllByRecursion HasNoFloat list → AllByRecursion HasNoFloat (with_respellings_around d pieces list o)
respellings_plain d pieces None list p = p
respellings_plain d pieces (Some q) list p = fold_plain (with_respelling d pieces) (respelling_plain d pieces) (with_piece d.text [] q) list p
