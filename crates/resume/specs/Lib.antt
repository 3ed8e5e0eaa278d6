pub mod Resumes
pub mod Laws
