use Rattle.std.proofs.Common.{◌≡◌, ℕ, Option, None, refl, rules}
use Rattle.repeats.proofs.Links.{links, chain-long, chain-none, chain-found}
use Rattle.repeats.proofs.chain_at.Goals as goal

pub in_chain-requires : goal.in_chain-requires
in_chain-requires c = search links

-- the chain is too long
pub returns-in_err-in_chain : goal.returns-in_err-in_chain
returns-in_err-in_chain c =
    let e : ◌≡◌ {A = Option ℕ} c.from_residual.result None = search rules in
    rw e (chain-long c.requires c.start-from.ensures c.end-to.ensures c.chain_of-c.ensures.0 c.chain_of-c.ensures.1 _)

pub returns-then-not-branch : goal.returns-then-not-branch
returns-then-not-branch c =
    chain-none c.requires c.start-from.ensures c.end-to.ensures c.chain_of-c.ensures.0 c.chain_of-c.ensures.1 refl c.in_ok-in_chain.ensures _ c.if-not-branch.true

pub returns : goal.returns
returns c =
    chain-found c.requires c.start-from.ensures c.end-to.ensures c.chain_of-c.ensures.0 c.chain_of-c.ensures.1 refl c.in_ok-in_chain.ensures c.if-not-branch.false
    c.fault_at.ensures c.lesser.ensures
