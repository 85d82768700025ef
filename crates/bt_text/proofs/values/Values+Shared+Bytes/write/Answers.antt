use Rattle.std.proofs.Common.{sym, ap, ◌∙◌, ℕ, List, set, ◌++◌, arith}
use Rattle.std.proofs.lemmas.List.{set-append_left}
use Rattle.bt_text.proofs.values.Values+Shared+Bytes.write.Goals as goal

pub returns-then-place-len : goal.returns-then-place-len
returns-then-place-len c =
    let v = c.self.inside in
    ap (λ (t : List ℕ). set v.first.items c.args.place t ++ v.more) c.in_ok-write.ensures
    ∙ sym (set-append_left v.first.items v.more c.args.place c.args.text.now (omega arith))
    ∙ ap (λ (l : List (List ℕ)). set l c.args.place c.args.text.now) c.self.view_is
