-- Which ends a session begins with, and what its parts are as an opening.
pub use Rattle.session_link.specs.Links
pub use Rattle.session_api.specs.Opening
