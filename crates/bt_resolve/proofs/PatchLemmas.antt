-- The messages of an edit are those before it, with some in the place of others.
use Rattle.std.proofs.Common.{◌≡◌, ◌∙◌, ap, sym, refl, append_assoc, ℕ, ◌+◌, ◌-◌, List, [], ◌∷◌, ◌++◌, length, length-append, map, take, drop, Option, Some, None, arith}
use Rattle.std.proofs.lemmas.List.{length-map, take_at, drop_at}
use Rattle.bt_bib.specs.declared.spot.Spot.{Spot}
use Rattle.bt_log.specs.declared.message.Message.{Message}
use Rattle.bt_log.specs.declared.message.Place.{Place}
use Rattle.bt_log.specs.declared.message.Place.TheVariants.{Line, DatabaseLine, WholeFile, Step}
use Rattle.bt_resolve.specs.declared.asked.Asked.{Asked}
use Rattle.bt_resolve.specs.declared.declared.Macro.{Macro}
use Rattle.bt_resolve.specs.Resolved.{messages}
use Rattle.bt_resolve.specs.inner.Patches.{rebased_place, rebased_message, patched}
use Rattle.bt_resolve.specs.Skeletons.{AreInPlace, moved_place, moved_message}
use Rattle.bt_resolve.specs.Edited.{Edit, databases_before, databases_after, items_before, told_by, told_first, told_next, told_last}
use Rattle.bt_resolve.proofs.EditedLemmas.{edit_is_patched}

-- ---- messages that move

line_moved : (stood stand : Spot) (database line : ℕ) (byte : Option ℕ) → rebased_place stood stand (moved_place stood (Some (DatabaseLine database line byte))) ≡ moved_place stand (Some (DatabaseLine database line byte))
line_moved stood stand database line None =
    let sum : (line + stood.line) - stood.line + stand.line ≡ line + stand.line = omega arith in
    λ j. Some (DatabaseLine database (sum j) None)
line_moved stood stand database line (Some b) =
    let sum : (line + stood.line) - stood.line + stand.line ≡ line + stand.line = omega arith in
    let place : (b + stood.place) - stood.place + stand.place ≡ b + stand.place = omega arith in
    λ j. Some (DatabaseLine database (sum j) (Some (place j)))

place_moved : (stood stand : Spot) (o : Option Place) → rebased_place stood stand (moved_place stood o) ≡ moved_place stand o
place_moved stood stand None = refl
place_moved stood stand (Some (DatabaseLine database line byte)) = line_moved stood stand database line byte
place_moved stood stand (Some (Line file line byte)) = refl
place_moved stood stand (Some (WholeFile file)) = refl
place_moved stood stand (Some (Step style line)) = refl

message_moved : (stood stand : Spot) (m : Message) → rebased_message stood stand (moved_message stood m) ≡ moved_message stand m
message_moved stood stand m = λ j. record m { place = place_moved stood stand m.place j }

messages_moved : (stood stand : Spot) (ms : List Message) → map (rebased_message stood stand) (map (moved_message stood) ms) ≡ map (moved_message stand) ms
messages_moved stood stand [] = refl
messages_moved stood stand (m ∷ ms) = λ j. message_moved stood stand m j ∷ messages_moved stood stand ms j

-- ---- the parts of a list

module _ (first old next last : List Message) where
  abbrev all_of : List Message
  all_of = first ++ old ++ next ++ last

  grouped : all_of ≡ first ++ (old ++ (next ++ last))
  grouped = append_assoc (first ++ old) next last ∙ append_assoc first old (next ++ last)

  first_part : (f : ℕ) → length first ≡ f → take f all_of ≡ first
  first_part f is = ap (take f) grouped ∙ take_at first (old ++ (next ++ last)) f is

  next_part : (p n : ℕ) → length first + length old ≡ p → length next ≡ n → take n (drop p all_of) ≡ next
  next_part p n is_p is_n =
      ap (λ (l : List Message). take n (drop p l)) (append_assoc (first ++ old) next last)
      ∙ ap (take n) (drop_at (first ++ old) (next ++ last) p (length-append first old ∙ is_p))
      ∙ take_at next last n is_n

  last_part : (e : ℕ) → length first + length old + length next ≡ e → drop e all_of ≡ last
  last_part e is =
      drop_at (first ++ old ++ next) last e (length-append (first ++ old) next ∙ ap (λ (n : ℕ). n + length next) (length-append first old) ∙ is)

patched_is : (front old next last new all : List Message) (first past end : ℕ) (stood stand : Spot) → first ≡ length front → past ≡ length front + length old → end ≡ length front + length old + length next → all ≡ front ++ old ++ map (moved_message stood) next ++ last →
    patched all first past end new stood stand ≡ front ++ new ++ map (moved_message stand) next ++ last
patched_is front old next last new all first past end stood stand is_first is_past is_end is_all =
    let mid = map (moved_message stood) next in
    let count : length mid ≡ length next = length-map next (moved_message stood) in
    let whole = front ++ old ++ mid ++ last in
    let before : take first whole ≡ front = first_part front old mid last first (sym is_first) in
    let middle : take (end - past) (drop past whole) ≡ mid = next_part front old mid last past (end - past) (sym is_past) (omega (arith, count, is_past, is_end)) in
    let after : drop end whole ≡ last = last_part front old mid last end (omega (arith, count, is_end)) in
    ap (λ (l : List Message). patched l first past end new stood stand) is_all
    ∙ (λ j. before j ++ new ++ map (rebased_message stood stand) (middle j) ++ after j)
    ∙ ap (λ (l : List Message). front ++ new ++ l ++ last) (messages_moved stood stand next)

-- ---- the edit

-- the messages after an edit, from how far the reading was before the span, behind it, and at the end of its database
pub messages_patched : (a : Asked) (ms : List Macro) (e : Edit) (first past end : ℕ) → AreInPlace ms (items_before e) e.old e.new →
    first ≡ length (told_first a ms e) → past ≡ length (told_first a ms e) + length (told_by a ms e e.old) → end ≡ length (told_first a ms e) + length (told_by a ms e e.old) + length (told_next a ms e) →
    messages a ms (databases_after e) ≡ patched (messages a ms (databases_before e)) first past end (told_by a ms e e.new) e.stood e.stand
messages_patched a ms e first past end in_place is_first is_past is_end =
    let whole = edit_is_patched a ms 0 e in_place in
    whole.told_after
    ∙ sym (patched_is (told_first a ms e) (told_by a ms e e.old) (told_next a ms e) (told_last a ms e) (told_by a ms e e.new) (messages a ms (databases_before e)) first past end e.stood e.stand is_first is_past is_end whole.told_before)
