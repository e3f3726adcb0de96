use Rattle.std.proofs.Common.{nat_eq, sym, ap, ◌∙◌}
use Rattle.m4_input.proofs.Scans.{none_begun, none_cut}
use Rattle.m4_input.proofs.delims.Delims.may_quote.Goals as goal

pub returns-clause-starts : goal.returns-clause-starts
returns-clause-starts c e =
    none_begun c.args.self.now.quotes.now.begin c.args.first (ap (nat_eq c.args.first) (sym c.args.self.now.firsts.0) ∙ e)

pub returns-clause-may : goal.returns-clause-may
returns-clause-may c e =
    none_cut c.args.self.now.quotes.now.begin c.args.first (ap (nat_eq c.args.first) (sym c.args.self.now.firsts.0) ∙ e)
