-- Each name keeps one text after an edit.
use Rattle.std.proofs.Common.{◌≡◌, subst, sym, [], length, Option, Some, None, Ok}
use Rattle.std.specs.Prelude.{unwrap_or}
use Rattle.bt_job.specs.FileNames.{text_of}
use Rattle.bibtex.specs.declared.edit.Refusal.{Refusal}
use Rattle.bibtex.specs.declared.state.State.{State}
use Rattle.bibtex.specs.Edit.{Edit, bytes_of, write, splice, remove, root_name, min_crossrefs}
use Rattle.bibtex.specs.Present.{EachOnce}
use Rattle.bibtex.specs.inner.Cases.{replaced, unless_refused}
use Rattle.bibtex.specs.Applied.{refusal_of, changed, applied}
use Rattle.bibtex.proofs.TextLemmas.{once_with, once_without}

-- Each name stands once

once_after : (e : Edit) (s : State) → EachOnce s.texts → EachOnce (changed e s).texts
once_after (write name bytes) s once = once_with name bytes s.texts once
once_after (splice name start end bytes) s once = once_with name (replaced start end bytes (unwrap_or (text_of s.texts name) [])) s.texts once
once_after (remove name) s once = once_without name s.texts once
once_after (root_name name) s once = once
once_after (min_crossrefs n) s once = once

pub once_changed : (e : Edit) (s t : State) → t ≡ changed e s → EachOnce s.texts → EachOnce t.texts
once_changed e s t is once = subst (λ (u : State). EachOnce u.texts) (sym is) (once_after e s once)

once_unless : (o : Option Refusal) (made t : State) → EachOnce made.texts → unless_refused o made ≡ Ok t → EachOnce t.texts
once_unless None made t once is = let same : made ≡ t = cc in subst (λ (u : State). EachOnce u.texts) same once
once_unless (Some refusal) made t once is = absurd cc

pub once_applied : (e : Edit) (s t : State) → EachOnce s.texts → applied e s ≡ Ok t → EachOnce t.texts
once_applied e s t once is = once_unless (refusal_of e (length (bytes_of e)) s) (changed e s) t (once_after e s once) is
