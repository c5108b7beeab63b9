use Rattle.std.proofs.Common.{rules}
use Rattle.gorsepetal.specs.State.{fresh_state}
use Rattle.gorsepetal.specs.Calls.{Proposed, Confirmed}
use Rattle.session.proofs.Entries.{proposed, confirmed, refused, accepted, on_ok}
use Rattle.session.proofs.run.Goals as goal

pub returns-then-not-branch : goal.returns-then-not-branch
returns-then-not-branch g c =
    let (e, met, taken) = c.in_ok-r.ensures.ok in
    let p : Proposed fresh_state e c.in_ok-r.r c.one_entry.new.state = search rules in
    let said = c.in_ok-accepted.ensures in
    refused (proposed p taken said.line said.good) c.if-not-branch.true

pub returns-then-not-branch-2 : goal.returns-then-not-branch-2
returns-then-not-branch-2 g c =
    let (e, met, taken) = c.in_ok-r.ensures.ok in
    let p : Proposed fresh_state e c.in_ok-r.r c.one_entry.new.state = search rules in
    let said = c.in_ok-accepted.ensures in
    let (e-2, met-2, taken-2) = c.in_ok-r-2.ensures.ok in
    let p-2 : Confirmed c.one_entry.new.state e-2 c.in_ok-r-2.r c.one_entry-2.new.state = search rules in
    let said-2 = c.in_ok-accepted-2.ensures in
    let good = accepted (proposed p taken said.line said.good) c.if-not-branch.false in
    refused (confirmed good p-2 taken-2 said-2.line said-2.good) c.if-not-branch-2.true

pub returns : goal.returns
returns g c =
    let (e, met, taken) = c.in_ok-r.ensures.ok in
    let p : Proposed fresh_state e c.in_ok-r.r c.one_entry.new.state = search rules in
    let said = c.in_ok-accepted.ensures in
    let (e-2, met-2, taken-2) = c.in_ok-r-2.ensures.ok in
    let p-2 : Confirmed c.one_entry.new.state e-2 c.in_ok-r-2.r c.one_entry-2.new.state = search rules in
    let said-2 = c.in_ok-accepted-2.ensures in
    let good = accepted (proposed p taken said.line said.good) c.if-not-branch.false in
    let good-2 = accepted (confirmed good p-2 taken-2 said-2.line said-2.good) c.if-not-branch-2.false in
    on_ok c.all_windows.result (good-2.all _) c.all_windows.ensures
