use Rattle.std.proofs.Common.{◌≡◌, ◌+◌, ◌∙◌, ap, sym, ℕ, List, Some, None}
use Rattle.bt_files.specs.Names.{numbered}
use Rattle.bt_files.proofs.KeyLemmas.{made}
use Rattle.bt_files.proofs.names.Names.session_name.Goals as goal

pub returns-in_ok-name-in-Some : goal.returns-in_ok-name-in-Some
returns-in_ok-name-in-Some c =
    let is : c.in_ok-name-in-Some.name ≡ numbered (c.in-Some.place + 1) c.args.author.now = c.in_ok-name-in-Some.ensures in
    ap (λ (n : List ℕ). Some n) is
    ∙ made c.args.author.now c.self.inside.authors.keys c.args.self.now (Some c.in-Some.place) (c.self.view_is) (sym c.is_own_name.ensures ∙ c.if-is_own_name.false) c.in-Some.ensures.index

pub returns-in-None : goal.returns-in-None
returns-in-None c =
    made c.args.author.now c.self.inside.authors.keys c.args.self.now None (c.self.view_is) (sym c.is_own_name.ensures ∙ c.if-is_own_name.false) c.in-None.ensures.index
