use Rattle.design_trace.proofs.vcd_lines.Line.at.Goals as goal

pub returns-in-Scope-clause-line : goal.returns-in-Scope-clause-line
returns-in-Scope-clause-line g c = c.scope.ensures.line (g.V.Waveform.rows c.args.waveform.now)

pub returns-in-Scope-clause-next : goal.returns-in-Scope-clause-next
returns-in-Scope-clause-next g c = c.scope.ensures.next (g.V.Waveform.rows c.args.waveform.now)

pub returns-in-Declaration-clause-line : goal.returns-in-Declaration-clause-line
returns-in-Declaration-clause-line g c = c.declaration.ensures.line (g.V.Waveform.rows c.args.waveform.now)

pub returns-in-Declaration-clause-next : goal.returns-in-Declaration-clause-next
returns-in-Declaration-clause-next g c = c.declaration.ensures.next (g.V.Waveform.rows c.args.waveform.now)

pub returns-in-HeadEnd-clause-line : goal.returns-in-HeadEnd-clause-line
returns-in-HeadEnd-clause-line g c = c.head_end.ensures.line (g.V.Waveform.rows c.args.waveform.now)

pub returns-in-End-clause-line : goal.returns-in-End-clause-line
returns-in-End-clause-line g c = c.plain.ensures.line (g.V.Waveform.rows c.args.waveform.now)
