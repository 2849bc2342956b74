-- Two lemmas of Jobs, by the path that proofs above name them by.
pub use Rattle.route_job.proofs.Jobs.{good_at, on_err}
