use Rattle.std.proofs.Common.{eq-eqb, ne_eqb}
use Rattle.ticket.specs.Fit.{fit_refusal}
use Rattle.ticket.proofs.judge.Goals as goal

pub returns-then-ticket : goal.returns-then-ticket
unfolding fit_refusal
returns-then-ticket c = rw (c.if-not-ticket.true, c.if-ticket.true)

pub returns-then-not-ticket : goal.returns-then-not-ticket
unfolding fit_refusal
returns-then-not-ticket c = rw (c.if-not-ticket.true, c.if-ticket.false)

pub returns-then-source-unit : goal.returns-then-source-unit
unfolding fit_refusal
returns-then-source-unit c = rw (c.if-not-ticket.false, ne_eqb _ _ c.if-source-unit.true)

pub returns-then-not-kind : goal.returns-then-not-kind
unfolding fit_refusal
returns-then-not-kind c = rw (c.if-not-ticket.false, eq-eqb _ _ c.if-source-unit.false, ← c.kind_fits-kind.ensures, c.if-not-kind.true)

pub returns-then-not-register : goal.returns-then-not-register
unfolding fit_refusal
returns-then-not-register c =
    rw (
      c.if-not-ticket.false,
      eq-eqb _ _ c.if-source-unit.false,
      ← c.kind_fits-kind.ensures,
      c.if-not-kind.false,
      ← c.register_fits-register.ensures,
      c.if-not-register.true,
    )

pub returns : goal.returns
unfolding fit_refusal
returns c =
    rw (
      c.if-not-ticket.false,
      eq-eqb _ _ c.if-source-unit.false,
      ← c.kind_fits-kind.ensures,
      c.if-not-kind.false,
      ← c.register_fits-register.ensures,
      c.if-not-register.false,
    )
