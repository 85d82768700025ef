use Rattle.std.proofs.Common.{◌≡◌, false, drop}
use Rattle.std.specs.List.{fold}
use Rattle.bt_lsp.specs.Complaints.{or_means}
use Rattle.bt_lsp.proofs.complaints.any_means.Given as goal

abbrev pub invariant-found : goal.invariant-found
invariant-found l = fold (or_means l.text l.file) l.known (drop l.link-index l.found) ≡ fold (or_means l.text l.file) false l.found
